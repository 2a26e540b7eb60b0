-- The text of a tree, by what reading it gives.
use Rattle.std.proofs.Common.{◌≡◌, ℕ, zero, suc, ◌<◌, Bool, true, false, not, eqb, List, [], ◌∷◌, map, length, get_or, ℤ, Some, None, Option, sym, refl, ap, ◌∙◌, w64, of_z}
use Rattle.std.proofs.lemmas.List.{get_or-map}
use Rattle.std.specs.Fmt.{signed_decimal}
use Rattle.forest.specs.Forests.{Forest, none, leaf, node, integer, string, boolean, Item, scalar, element, items}
use Rattle.forest.specs.Stores.{Child, nothing, kind_at, tag_at, children_at, value_at, text_at}
use Rattle.forest.specs.declared.kind.Kind.{Kind}
use Rattle.forest.specs.declared.kind.Kind.TheVariants.{Integer, String, Boolean, Element}
use Rattle.printing.specs.Items.{item_printed, printed_at}
use Rattle.printing.specs.Printed.{element_printed, quoted, texts, truth}

texts-items : (f : Forest) → texts f ≡ map item_printed (items f)
texts-items none = refl
texts-items (leaf s f) = ap (λ xs. item_printed (scalar s) ∷ xs) (texts-items f)
texts-items (node t c f) = ap (λ xs. item_printed (element t c) ∷ xs) (texts-items f)

-- as the code tests it
abbrev pub nonzero : ℤ → Bool
nonzero z = not (eqb (of_z w64 z) 0)

-- the text of an item of a kind, with a value, a text, a tag and children
abbrev pub printed-by : Option Kind → ℤ → List ℕ → ℕ → List Item → List ℕ
printed-by None z bs t cs = []
printed-by (Some Integer) z bs t cs = signed_decimal z
printed-by (Some String) z bs t cs = quoted bs
printed-by (Some Boolean) z bs t cs = truth (nonzero z)
printed-by (Some Element) z bs t cs = element_printed t (map item_printed cs)

printed-read : (ts : List Item) (h : ℕ) → printed_at ts h ≡ printed-by (kind_at ts h) (value_at ts h) (text_at ts h) (tag_at ts h) (children_at ts h)
printed-read [] h = refl
printed-read (scalar (integer z) ∷ ts) zero = refl
printed-read (scalar (string bs) ∷ ts) zero = refl
printed-read (scalar (boolean true) ∷ ts) zero = refl
printed-read (scalar (boolean false) ∷ ts) zero = refl
printed-read (element t c ∷ ts) zero = ap (element_printed t) (texts-items c)
printed-read (i ∷ ts) (suc h) = printed-read ts h

pub printed-kind : (ts : List Item) (h : ℕ) (k : Option Kind) → k ≡ kind_at ts h → printed-by k (value_at ts h) (text_at ts h) (tag_at ts h) (children_at ts h) ≡ printed_at ts h
printed-kind ts h k e = ap (λ x. printed-by x (value_at ts h) (text_at ts h) (tag_at ts h) (children_at ts h)) e ∙ sym (printed-read ts h)

pub printed-integer : (ts : List Item) (h : ℕ) (z v : ℤ) → z ≡ v → v ≡ value_at ts h → Some Integer ≡ kind_at ts h → signed_decimal z ≡ printed_at ts h
printed-integer ts h z v e f k = ap signed_decimal (e ∙ f) ∙ printed-kind ts h (Some Integer) k

pub printed-boolean : (ts : List Item) (h : ℕ) (z : ℤ) → z ≡ value_at ts h → Some Boolean ≡ kind_at ts h → truth (nonzero z) ≡ printed_at ts h
printed-boolean ts h z e k = ap (λ x. truth (nonzero x)) e ∙ printed-kind ts h (Some Boolean) k

pub printed-there : (ts : List Item) (h : ℕ) → h < length ts → printed_at ts h ≡ item_printed (get_or ts h nothing)
printed-there ts h lt = get_or-map item_printed ts h nothing [] lt

pub printed-child : (ts : List Item) (h j r : ℕ) → Child ts h j r → j < length (children_at ts h) → printed_at ts r ≡ item_printed (get_or (children_at ts h) j nothing)
printed-child ts h j r child lt = printed-there ts r (child.there lt) ∙ ap item_printed (child.tree nothing lt)
