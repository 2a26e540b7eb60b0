-- Forests as text: items parted by commas, an element as its tag and its content in brackets.
use Rattle.std.specs.Prelude.{ℕ, ◌+◌, ◌/◌, ◌%◌, Bool, true, false, cond, not, ◌&&◌, ◌||◌, List, [], ◌∷◌, ◌++◌, codes, decimal, ◌==◌, nat_le, nat_lt}
use Rattle.std.specs.Fmt.{signed_decimal}
use Rattle.forest.specs.Forests.{Scalar, integer, string, boolean, Forest, none, leaf, node}

abbrev pub quote : ℕ
quote = 34

abbrev pub backslash : ℕ
backslash = 92

-- 0 to 9, then a to f
abbrev pub hex_digit : ℕ → ℕ
hex_digit d = cond (nat_lt d 10) (48 + d) (87 + d)

-- from the space to the tilde, but for the quote and the backslash
abbrev pub plain : ℕ → Bool
plain b = (nat_le 32 b && nat_le b 126) && not (b == quote || b == backslash)

-- a byte that is not plain becomes a backslash and two hexadecimal digits
abbrev pub escaped : ℕ → List ℕ
escaped b = cond (plain b) (b ∷ []) (backslash ∷ (hex_digit (b / 16) ∷ (hex_digit (b % 16) ∷ [])))

abbrev pub all_escaped : List ℕ → List ℕ
all_escaped [] = []
all_escaped (b ∷ bs) = escaped b ++ all_escaped bs

abbrev pub quoted : List ℕ → List ℕ
quoted bs = quote ∷ (all_escaped bs ++ (quote ∷ []))

abbrev pub truth : Bool → List ℕ
truth true = codes "true"
truth false = codes "false"

abbrev pub scalar_printed : Scalar → List ℕ
scalar_printed (integer z) = signed_decimal z
scalar_printed (string bs) = quoted bs
scalar_printed (boolean b) = truth b

-- each with a comma before it
abbrev pub after_commas : List (List ℕ) → List ℕ
after_commas [] = []
after_commas (x ∷ xs) = codes "," ++ (x ++ after_commas xs)

-- parted by commas
abbrev pub joined : List (List ℕ) → List ℕ
joined [] = []
joined (x ∷ xs) = x ++ after_commas xs

abbrev pub element_printed : ℕ → List (List ℕ) → List ℕ
element_printed t content = decimal t ++ (codes "[" ++ (joined content ++ codes "]"))

-- the text of each item
abbrev pub texts : Forest → List (List ℕ)
texts none = []
texts (leaf s f) = scalar_printed s ∷ texts f
texts (node t c f) = element_printed t (texts c) ∷ texts f

abbrev pub printed : Forest → List ℕ
printed f = joined (texts f)
