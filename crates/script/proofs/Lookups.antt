-- Forms looked up by a call's word.
use Rattle.std.proofs.Common.{◌≡◌, ℕ, ◌≤◌, Bool, true, false, cond, List, [], ◌∷◌, ◌++◌, map, length, get_or, None, Option, Bor, refl, sym, ap, subst, ◌∙◌, rules, arith}
use Rattle.std.specs.Option.{option_map}
use Rattle.std.specs.Str.{bytes_eq, IsUtf8}
use Rattle.std.proofs.lemmas.Slice.Eq.{bytes_eq-Decides}
use Rattle.fields.specs.Lists.{pieces, texts}
use Rattle.fields.specs.Words.{first, given}
use Rattle.script.specs.Calls.{on_store, on_session, on_types}
use Rattle.script.specs.Forms.{Form, store_forms, session_forms, types_forms, other_forms, forms, as_kind, look_up, types_call_of, other_call_of, call_of}
use Rattle.script.specs.Lines.{call_in}

-- forms of one kind among those of more
look_up-map : {X Y : Type 0} (kind : X → Y) (fs : List (Form X)) (name : List ℕ) (ws : List (List ℕ)) → look_up (map (as_kind kind) fs) name ws ≡ option_map kind (look_up fs name ws)
look_up-map kind [] name ws = refl
look_up-map kind (f ∷ fs) name ws =
    elim (bytes_eq name f.word) as (λ t. cond t (option_map kind (f.reads ws)) (look_up (map (as_kind kind) fs) name ws) ≡ option_map kind (cond t (f.reads ws) (look_up fs name ws))) [
      | true ↦ refl
      | false ↦ look_up-map kind fs name ws
    ]

-- no form has that word
abbrev pub NoneNamed : {X : Type 0} → List ℕ → List (Form X) → Type 0
NoneNamed name [] = Unit {0}
NoneNamed name (f ∷ fs) = ¬ (name ≡ f.word) × NoneNamed name fs

other_word : {X : Type 0} (name word : List ℕ) (o rest : Option X) → ¬ (name ≡ word) → cond (bytes_eq name word) o rest ≡ rest
other_word name word o rest other = at (bytes_eq name word) refl
  where
    at : (t : Bool) → bytes_eq name word ≡ t → cond t o rest ≡ rest
    at true is = absurd (other ((bytes_eq-Decides name word).0 is))
    at false is = refl

pub look_up-past : {X : Type 0} (fs more : List (Form X)) (name : List ℕ) (ws : List (List ℕ)) → NoneNamed name fs → look_up (fs ++ more) name ws ≡ look_up more name ws
look_up-past [] more name ws others = refl
look_up-past (f ∷ fs) more name ws others =
    other_word name f.word (f.reads ws) (look_up (fs ++ more) name ws) others.0 ∙ look_up-past fs more name ws others.1

-- a word that names no call on a store
pub call_of-other : (name : List ℕ) (ws : List (List ℕ)) → NoneNamed name (map (as_kind on_store) store_forms) → call_of name ws ≡ other_call_of name ws
call_of-other name ws others = look_up-past (map (as_kind on_store) store_forms) other_forms name ws others

-- a word that names no call on a session either
pub other_call_of-types : (name : List ℕ) (ws : List (List ℕ)) → NoneNamed name (map (as_kind on_session) session_forms) → other_call_of name ws ≡ option_map on_types (types_call_of name ws)
other_call_of-types name ws others =
    look_up-past (map (as_kind on_session) session_forms) (map (as_kind on_types) types_forms) name ws others ∙ look_up-map on_types types_forms name ws

-- each form's word is text
abbrev AllText : {X : Type 0} → List (Form X) → Type 0
AllText [] = Unit {0}
AllText (f ∷ fs) = IsUtf8 f.word × AllText fs

all_text : AllText forms
all_text = search rules

none_named : {X : Type 0} (fs : List (Form X)) (name : List ℕ) → AllText fs → ¬ IsUtf8 name → NoneNamed name fs
none_named [] name texts no_text = tt
none_named (f ∷ fs) name texts no_text = ((λ e. no_text (subst IsUtf8 (sym e) texts.0)), none_named fs name texts.1 no_text)

-- so a line whose first word is no text is no call
pub call_in-no_text : (ws : List (Bor (List ℕ))) (line : List ℕ) (d : Bor (List ℕ)) → texts ws ≡ pieces 32 line → 1 ≤ length ws → ¬ IsUtf8 (get_or ws 0 d).now → call_in line ≡ None
call_in-no_text [] line d e le no_text = absurd (omega arith)
call_in-no_text (w ∷ ws) line d e le no_text =
    ap (λ ps. given (first ps) (λ p. call_of p.0 p.1)) (sym e) ∙ look_up-past forms [] w.now (texts ws) (none_named forms w.now all_text no_text)
