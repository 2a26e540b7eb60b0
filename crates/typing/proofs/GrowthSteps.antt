-- Growing step by step, and the rows that typing makes.
use Rattle.std.proofs.Common.{◌≡◌, ℕ, ◌≤◌, ◌⊎◌, List, [], ◌∷◌, ◌++◌, length, sym, ap, ◌∙◌, subst, inl, inr, arith, append_assoc}
use Rattle.std.proofs.lemmas.List.{get_or_past, append-nil}
use Rattle.std.proofs.lemmas.Bool.{cases_lt, false≢true, false_from_ne_true}
use Rattle.rows.specs.declared.type_row.TypeRow.{TypeRow}
use Rattle.rows.specs.declared.type_row.TypeRow.TheVariants.{EmptyChoice}
use Rattle.rows.specs.TypeRows.{owns}
use Rattle.types.specs.Parts.{row, content}
use Rattle.types.specs.Places.{Checked}
use Rattle.types.proofs.Longer.{Longer, longer}
use Rattle.typing.specs.Outcomes.{Progress}
use Rattle.typing.specs.Rules.{Added}
use Rattle.typing.specs.Growth.{Named, Free, Grows, Kept, Keeps}
use Rattle.typing.proofs.GrowthRows.{Suits, checked_more, free_new, grows_more}

-- GROWING

pub longer_of : {ts us : List TypeRow} → Grows ts us → Longer ts us
longer_of {ts} g = subst (Longer ts) (sym g.table) (longer ts g.more)

pub grows_none : (ts : List TypeRow) → Grows ts ts
grows_none ts = record {
  more = [];
  table = sym (append-nil ts);
  parts = λ i p l o. absurd (false≢true (sym (ap (λ w. owns w p) (get_or_past ts i EmptyChoice l)) ∙ o));
  contents = λ i c l e. inr (i, e);
}

named_before : {ts us : List TypeRow} {c : ℕ} → Grows ts us → Named us c → (length ts ≤ c) ⊎ Named ts c
named_before {ts} g (n, e) = elim (cases_lt n (length ts)) [ inl l ↦ inr (n, ap content (sym ((longer_of g).same n l)) ∙ e) | inr l ↦ g.contents n _ l e ]

pub grows_on : {ts us vs : List TypeRow} → Grows ts us → Grows us vs → Grows ts vs
grows_on {ts} {us} {vs} g h = record {
  more = g.more ++ h.more;
  table = h.table ∙ ap (λ z. z ++ h.more) g.table ∙ append_assoc ts g.more h.more;
  parts = λ i p l o. elim (cases_lt i (length us)) [
    | inl m ↦ g.parts i p l (ap (λ w. owns w p) (sym ((longer_of h).same i m)) ∙ o)
    | inr m ↦ (let a = h.parts i p m o in let b = (longer_of g).long in omega arith)
  ];
  contents = λ i c l e. elim (cases_lt i (length us)) [
    | inl m ↦ g.contents i c l (ap content (sym ((longer_of h).same i m)) ∙ e)
    | inr m ↦ elim (h.contents i c m e) [ inl a ↦ (let b = (longer_of g).long in inl (omega arith)) | inr n ↦ named_before g n ]
  ];
}

-- new rows name no free row
pub free_on : {ts us : List TypeRow} {r : ℕ} → Free ts r → Grows ts us → Free us r
free_on {ts} {us} {r} free g =
    let t = free.root.there in
    let m = longer_of g in
    let long = m.long in
    record {
      root = record {
        there = omega arith;
        unowned = λ s. elim (cases_lt s (length ts)) [
          | inl l ↦ ap (λ w. owns w r) (m.same s l) ∙ free.root.unowned s
          | inr l ↦ false_from_ne_true (owns (row us s) r) (λ o. (let a = g.parts s r l o in absurd (omega arith)))
        ];
      };
      unnamed = λ n. elim (named_before g n) [ inl l ↦ absurd (omega arith) | inr k ↦ free.unnamed k ];
    }

-- PROGRESS

-- where typing can start: the rules on rows are kept, and the declared rows are there
pub record Start (declared : ℕ) (p : Progress) : Type 0 where
  pub checked : Checked p.types declared
  pub within : declared ≤ length p.types

pub kept_none : {declared : ℕ} {p : Progress} → Start declared p → Kept declared p p
kept_none {p = p} s = record { grows = grows_none p.types; error = λ e. e; checked = s.checked }

pub kept_on : {declared : ℕ} {p q o : Progress} → Kept declared p q → Kept declared q o → Kept declared p o
kept_on a b = record { grows = grows_on a.grows b.grows; error = λ e. b.error (a.error e); checked = b.checked }

pub start_on : {declared : ℕ} {p q : Progress} → Start declared p → Kept declared p q → Start declared q
start_on s k = let l = (longer_of k.grows).long in let w = s.within in record { checked = k.checked; within = omega arith }

pub keeps_on : {declared : ℕ} {p q o : Progress} {x : ℕ} → Kept declared p q → Keeps declared q x o → Keeps declared p x o
keeps_on a b = let l = (longer_of a.grows).long in let n = b.fresh.new in record { kept = kept_on a b.kept; fresh = record { new = omega arith; free = b.fresh.free } }

-- ONE MORE ROW

pub added : {declared : ℕ} {p q o : Progress} {w : TypeRow} {x : ℕ} → Start declared p → Kept declared p q → Suits p.types q.types w → Added w q x o → Keeps declared p x o
added {declared} {p} {q} {o} {w} {x} s k suits a =
    let table : o.types ≡ q.types ++ (w ∷ []) = ap (λ z. z.types) a.table in
    let within = (start_on s k).within in
    let long = (longer_of k.grows).long in
    let place = a.place in
    record {
      kept = record {
        grows = subst (Grows p.types) (sym table) (grows_more suits within a.room k.checked k.grows);
        error = λ e. ap (λ z. z.error) a.table ∙ k.error e;
        checked = subst (λ z. Checked z declared) (sym table) (checked_more suits within a.room k.checked);
      };
      fresh = record {
        new = omega arith;
        free = subst (Free o.types) (sym place) (subst (λ z. Free z (length q.types)) (sym table) (free_new suits within a.room k.checked));
      };
    }
