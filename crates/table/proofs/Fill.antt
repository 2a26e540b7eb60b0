-- Adding a table's rows one by one.
use Rattle.std.proofs.Common.{◌≡◌, ℕ, ◌+◌, ◌-◌, ◌<◌, ◌≤◌, min, true, false, cond, List, [], ◌∷◌, ◌++◌, length, get_or, drop, Some, None, Ok, Err, Option, Result, vec_items, vec_len, sym, refl, ap, ◌∙◌, append_assoc, arith, length-append, le-leb}
use Rattle.std.specs.Option.{option_to_list}
use Rattle.std.specs.Result.{result_ok}
use Rattle.std.proofs.lemmas.List.{at_drop_more, append-nil}
use Rattle.forest.specs.declared.space.Space.{Space}
use Rattle.forest.specs.declared.fault.Reason.TheVariants.{UnlawfulTable}
use Rattle.forest.specs.Faults.{faulted}
use Rattle.forest.specs.Stores.{less}
use Rattle.std.proofs.lemmas.Bool.{and_from}
use Rattle.arena.specs.declared.arena.Arena.{Arena}
use Rattle.arena.specs.declared.row.Row.{Row}
use Rattle.arena.specs.Arenas.{Appended, Filled, Opened, allowed, means_over}
use Rattle.arena.specs.Rows.{built}
use Rattle.table.specs.declared.row.NoRow.{NoRow}
use Rattle.table.specs.declared.row.RawRow.{RawRow}
use Rattle.table.specs.Tables.{Converts, row_of, rows_of, row_lawful, sound_if, first_unlawful, refusal, at_row, table_meaning}
use Rattle.table.specs.Filling.{Prepared, Holds, Took}

pub converted : (r : RawRow) (v : Result Row NoRow) (o : Option Row) → Converts r v → o ≡ result_ok v → o ≡ row_of r
converted r (Ok q) o c e = e ∙ c
converted r (Err x) o c e = e ∙ c

pub took : (a b : Arena) (r : RawRow) (q : Row) (o : Option ℕ) → Some q ≡ row_of r → 1 ≤ a.space.trees → Appended a q o b → Took a r o b
took a b r q (Some h) is one (_, good, added) =
    let n = a.base + vec_len a.rows in
    let rows = added.rows ∙ ap (λ o. vec_items a.rows ++ (option_to_list o ++ [])) is in (
      sym (ap (sound_if n _ _) is) ∙ good,
      record {
        base = added.base;
        rows = rows;
        long = omega (arith, b.rows.ok.0, a.rows.ok.0, ap length added.rows, length-append (vec_items a.rows) (q ∷ []));
        children = added.children;
        text = added.text;
        space = added.space;
      },
    )
took a b r q None is one (_, bad) = sym (ap (sound_if (a.base + vec_len a.rows) _ _) is) ∙ bad one

rows_append : (xs ys : List RawRow) → rows_of (xs ++ ys) ≡ rows_of xs ++ rows_of ys
rows_append [] ys = refl
rows_append (x ∷ xs) ys = ap (λ zs. option_to_list (row_of x) ++ zs) (rows_append xs ys) ∙ sym (append_assoc (option_to_list (row_of x)) (rows_of xs) (rows_of ys))

less-less : (s : Space) (m n : ℕ) → less (less s (record { trees = m; children = 0; bytes = 0 })) (record { trees = n; children = 0; bytes = 0 }) ≡ less s (record { trees = m + n; children = 0; bytes = 0 })
less-less s m n =
    let x : s.trees - m - n ≡ s.trees - (m + n) = omega arith in
    let y : s.children - 0 - 0 ≡ s.children - 0 = omega arith in
    let z : s.bytes - 0 - 0 ≡ s.bytes - 0 = omega arith in
    cc

pub holds_more : (a b c : Arena) (xs ys : List RawRow) → Holds a xs b → Holds b ys c → Holds a (xs ++ ys) c
holds_more a b c xs ys p q =
    let long = length-append xs ys in
    record {
      base = q.base ∙ p.base;
      rows = q.rows ∙ ap (λ zs. zs ++ rows_of ys) p.rows ∙ append_assoc (vec_items a.rows) (rows_of xs) (rows_of ys) ∙ ap (λ zs. vec_items a.rows ++ zs) (sym (rows_append xs ys));
      long = let x = q.long in let y = p.long in omega arith;
      children = q.children ∙ p.children;
      text = q.text ∙ p.text;
      space = q.space ∙ ap (λ s. less s (record { trees = length ys; children = 0; bytes = 0 })) p.space ∙ less-less a.space (length xs) (length ys) ∙ ap (λ n. less a.space (record { trees = n; children = 0; bytes = 0 })) (sym long);
    }

less_none : (s : Space) → s ≡ less s (record { trees = 0; children = 0; bytes = 0 })
less_none s =
    let x : s.trees ≡ s.trees - 0 = omega arith in
    let y : s.children ≡ s.children - 0 = omega arith in
    let z : s.bytes ≡ s.bytes - 0 = omega arith in
    ap (λ n. record { trees = n; children = s.children; bytes = s.bytes }) x ∙ ap (λ n. record { trees = s.trees - 0; children = n; bytes = s.bytes }) y ∙ ap (λ n. record { trees = s.trees - 0; children = s.children - 0; bytes = n }) z

pub holds-none : (a : Arena) → Holds a [] a
holds-none a = record { base = refl; rows = sym (append-nil (vec_items a.rows)); long = omega arith; children = refl; text = refl; space = less_none a.space }

-- a row is judged alike at row n, in the arena b that a became
judged : (a b : Arena) (r : RawRow) (n : ℕ) → b.base + vec_len b.rows ≡ n → b.children ≡ a.children → b.text ≡ a.text → row_lawful n (vec_items a.children) (vec_items a.text) r ≡ row_lawful (b.base + vec_len b.rows) (vec_items b.children) (vec_items b.text) r
judged a b r n at es bs =
    sym (ap (λ k. row_lawful k (vec_items b.children) (vec_items b.text) r) at ∙ ap (λ v. row_lawful n (vec_items v) (vec_items b.text) r) es ∙ ap (λ v. row_lawful n (vec_items a.children) (vec_items v) r) bs)

-- the search for an unlawful row goes past a lawful one, and ends at another
pub went_on : (a b : Arena) (rs : List RawRow) (n : ℕ) (d : RawRow) → n < length rs → b.base + vec_len b.rows ≡ n → b.children ≡ a.children → b.text ≡ a.text → row_lawful (b.base + vec_len b.rows) (vec_items b.children) (vec_items b.text) (get_or rs n d) ≡ true → first_unlawful (n + 1) (vec_items a.children) (vec_items a.text) (drop (n + 1) rs) ≡ first_unlawful n (vec_items a.children) (vec_items a.text) (drop n rs)
went_on a b rs n d lt at es bs good =
    let F = first_unlawful n (vec_items a.children) (vec_items a.text) in
    let rest = first_unlawful (n + 1) (vec_items a.children) (vec_items a.text) (drop (n + 1) rs) in
    sym (at_drop_more F rs n d lt ∙ ap (λ t. cond t rest (Some n)) (judged a b (get_or rs n d) n at es bs ∙ good))

pub stopped_at : (a b : Arena) (rs : List RawRow) (n : ℕ) (d : RawRow) → n < length rs → b.base + vec_len b.rows ≡ n → b.children ≡ a.children → b.text ≡ a.text → row_lawful (b.base + vec_len b.rows) (vec_items b.children) (vec_items b.text) (get_or rs n d) ≡ false → first_unlawful n (vec_items a.children) (vec_items a.text) (drop n rs) ≡ Some n
stopped_at a b rs n d lt at es bs bad =
    let F = first_unlawful n (vec_items a.children) (vec_items a.text) in
    let rest = first_unlawful (n + 1) (vec_items a.children) (vec_items a.text) (drop (n + 1) rs) in
    at_drop_more F rs n d lt ∙ ap (λ t. cond t rest (Some n)) (judged a b (get_or rs n d) n at es bs ∙ bad)

-- a new arena, filled with the entries and the text that it has space for
pub prepared : (n : ℕ) (es bs : List ℕ) (a b : Arena) (held : Option (Unit {0})) → n ≤ 65535 → length es ≤ 65535 → length bs ≤ 65535 → Opened 0 (record { trees = n; children = length es; bytes = length bs }) a → Filled a es bs held b → Prepared n es bs b
prepared n es bs a b (Some u) x y z o (_, _, e) =
    let t : min n (1000000 - 0) - 0 ≡ n = omega arith in
    let k : min (length es) 1000000 - length es ≡ 0 = omega arith in
    let l : min (length bs) 1000000 - length bs ≡ 0 = omega arith in
    let s : b.space ≡ less (allowed 0 (record { trees = n; children = length es; bytes = length bs })) (record { trees = 0; children = length es; bytes = length bs }) = e.space ∙ ap (λ q. less q (record { trees = 0; children = length es; bytes = length bs })) o.space in
    record {
      base = e.base ∙ o.base;
      rows = e.rows ∙ o.rows;
      children = e.children ∙ ap (λ q. q ++ es) o.children;
      text = e.text ∙ ap (λ q. q ++ bs) o.text;
      space = cc;
    }
prepared n es bs a b None x y z o (_, short) = absurd (short (omega (arith, ap (λ s. s.children) o.space)) (omega (arith, ap (λ s. s.bytes) o.space)))

-- a table within the limits is judged by its rows
pub within-limits : (rs : List RawRow) (es bs : List ℕ) → length rs ≤ 65535 → length es ≤ 65535 → length bs ≤ 65535 → refusal rs es bs ≡ at_row (first_unlawful 0 es bs rs)
within-limits rs es bs a b c =
    ap (λ t. cond t (at_row (first_unlawful 0 es bs rs)) (Some (faulted UnlawfulTable 4 0))) (and_from _ _ (le-leb (length rs) 65535 a) (and_from _ _ (le-leb (length es) 65535 b) (le-leb (length bs) 65535 c)))

-- what the arena means once all rows are in
pub full_meaning : (n : ℕ) (rs : List RawRow) (es bs : List ℕ) (a b : Arena) → n ≡ length rs → Prepared n es bs a → Holds a rs b → means_over [] b ≡ table_meaning rs es bs
full_meaning n rs es bs a b e p h =
    let t : n - length rs ≡ 0 = omega arith in
    let rows : vec_items b.rows ≡ rows_of rs = h.rows ∙ ap (λ q. q ++ rows_of rs) p.rows in
    let kids : vec_items b.children ≡ es = ap vec_items h.children ∙ p.children in
    let text : vec_items b.text ≡ bs = ap vec_items h.text ∙ p.text in
    let space : b.space ≡ record { trees = 0; children = 0; bytes = 0 } = h.space ∙ ap (λ q. less q (record { trees = length rs; children = 0; bytes = 0 })) p.space ∙ ap (λ k. record { trees = k; children = 0; bytes = 0 }) t in
    ap (λ q. record { trees = built [] (vec_items b.children) (vec_items b.text) q; space = b.space }) rows
    ∙ ap (λ q. record { trees = built [] q (vec_items b.text) (rows_of rs); space = b.space }) kids
    ∙ ap (λ q. record { trees = built [] es q (rows_of rs); space = b.space }) text
    ∙ ap (λ q. record { trees = built [] es bs (rows_of rs); space = q }) space

-- the search over the arena's entries and text is the one over the table's
pub same-search : (n : ℕ) (rs : List RawRow) (es bs : List ℕ) (a : Arena) → Prepared n es bs a → first_unlawful 0 es bs rs ≡ first_unlawful 0 (vec_items a.children) (vec_items a.text) rs
same-search n rs es bs a p = sym (ap (λ q. first_unlawful 0 q (vec_items a.text) rs) p.children ∙ ap (λ q. first_unlawful 0 es q rs) p.text)
