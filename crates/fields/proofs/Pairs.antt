-- Values read one after another.
use Rattle.std.proofs.Common.{◌≡◌, ℕ, List, [], ◌∷◌, ◌++◌, length, get_or, Some, None, Option, refl, ap, ◌∙◌, append_assoc, arith}
use Rattle.std.specs.Option.{option_map}
use Rattle.fields.specs.Lists.{before}
use Rattle.fields.specs.Bytes.{hex_byte, hex_pairs}

-- what is read, behind what was read before
abbrev pub onto : {X : Type 0} → List X → Option (List X) → Option (List X)
onto xs o = option_map (λ ys. xs ++ ys) o

pub onto_push : {X : Type 0} (xs : List X) (x : X) (o : Option (List X)) → onto (xs ++ (x ∷ [])) o ≡ onto xs (before (Some x) o)
onto_push xs x None = refl
onto_push xs x (Some ys) = ap Some (append_assoc xs (x ∷ []) ys)

-- one pair more: ys is what was read with its byte
pub pair_read : (xs ys pair more : List ℕ) (x : ℕ) → ys ≡ xs ++ (x ∷ []) → length pair ≡ 2 → Some x ≡ hex_byte (get_or pair 0 0) (get_or pair 1 0) → onto ys (hex_pairs more) ≡ onto xs (hex_pairs (pair ++ more))
pair_read xs ys [] more x pushed len is = absurd (omega arith)
pair_read xs ys (h ∷ []) more x pushed len is = absurd (omega arith)
pair_read xs ys (h ∷ l ∷ []) more x pushed len is =
    ap (λ zs. onto zs (hex_pairs more)) pushed
    ∙ onto_push xs x (hex_pairs more)
    ∙ ap (λ y. onto xs (before y (hex_pairs more))) is
pair_read xs ys (h ∷ l ∷ b ∷ bs) more x pushed len is = absurd (omega arith)
