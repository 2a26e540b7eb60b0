-- A call that is read has the word with which its line begins.
use Rattle.std.proofs.Common.{◌≡◌, ℕ, Bool, true, false, cond, eqb, List, [], ◌∷◌, Some, None, Option, sym, refl, ap, ◌∙◌, rules}
use Rattle.std.specs.Option.{IfSome, option_map}
use Rattle.std.specs.Bool.{then_some}
use Rattle.std.specs.Str.{bytes_eq}
use Rattle.std.proofs.lemmas.Slice.Eq.{bytes_eq-Decides}
use Rattle.fields.specs.Lists.{pieces}
use Rattle.fields.specs.Words.{first, given}
use Rattle.script.specs.Calls.{Asked, word_of}
use Rattle.script.specs.Forms.{Form, forms, look_up, call_of}
use Rattle.script.specs.Lines.{Named, silent, call_in, call_or_malformed, read_line}

-- What holds of all that is made of a value holds of what is made, if there is one.
given-all : {X Y : Type 0} (P : Y → Type 0) (o : Option X) (next : X → Option Y) → ((x : X) → IfSome (next x) P) → IfSome (given o next) P
given-all P None next all = tt
given-all P (Some x) next all = all x

map-all : {X Y : Type 0} (P : Y → Type 0) (o : Option X) (make : X → Y) → ((x : X) → P (make x)) → IfSome (option_map make o) P
map-all P None make all = tt
map-all P (Some x) make all = all x

kind-all : {X Y : Type 0} (P : Y → Type 0) (o : Option X) (kind : X → Y) → IfSome o (λ x. P (kind x)) → IfSome (option_map kind o) P
kind-all P None kind is = tt
kind-all P (Some x) kind is = is

then_some-all : {X : Type 0} (P : X → Type 0) (t : Bool) (x : X) → P x → IfSome (then_some t x) P
then_some-all P true x is = is
then_some-all P false x is = tt

-- Each form reads calls of its own word.
abbrev AllOwn : List (Form Asked) → Type 0
AllOwn [] = Unit {0}
AllOwn (f ∷ fs) = ((ws : List (List ℕ)) → IfSome (f.reads ws) (λ a. word_of a ≡ f.word)) × AllOwn fs

all_own : AllOwn forms
all_own = search (rules, kind-all, given-all, map-all, then_some-all) depth 9

-- What is looked up has the word that it was looked up by.
module _ (name : List ℕ) (ws : List (List ℕ)) where
  one_of : (f : Form Asked) (later : Option Asked) → IfSome (f.reads ws) (λ a. word_of a ≡ f.word) → IfSome later (λ a. word_of a ≡ name) → IfSome (cond (bytes_eq name f.word) (f.reads ws) later) (λ a. word_of a ≡ name)
  one_of f later own others = at (bytes_eq name f.word) refl
    where
      at : (t : Bool) → bytes_eq name f.word ≡ t → IfSome (cond t (f.reads ws) later) (λ a. word_of a ≡ name)
      at true is = let same : name ≡ f.word = (bytes_eq-Decides name f.word).0 is in rw same own
      at false is = others

  look_up-own : (fs : List (Form Asked)) → AllOwn fs → IfSome (look_up fs name ws) (λ a. word_of a ≡ name)
  look_up-own [] own = tt
  look_up-own (f ∷ fs) own = one_of f (look_up fs name ws) (own.0 ws) (look_up-own fs own.1)

named_call : (line : List ℕ) (o : Option (List ℕ × List (List ℕ))) → first (pieces 32 line) ≡ o → Named line (call_or_malformed (given o (λ w. call_of w.0 w.1)))
named_call line None is = tt
named_call line (Some w) is = first_word (call_of w.0 w.1) (look_up-own w.0 w.1 forms all_own)
  where
    first_word : (r : Option Asked) → IfSome r (λ a. word_of a ≡ w.0) → Named line (call_or_malformed r)
    first_word None own = tt
    first_word (Some a) own = ap (option_map (λ p. p.0)) is ∙ ap Some (sym own)

pub named : (line : List ℕ) → Named line (read_line line)
named [] = tt
named (b ∷ bs) =
    elim (eqb b 35) as (λ t. Named (b ∷ bs) (cond t silent (call_or_malformed (call_in (b ∷ bs))))) [
      | true ↦ tt
      | false ↦ named_call (b ∷ bs) (first (pieces 32 (b ∷ bs))) refl
    ]
