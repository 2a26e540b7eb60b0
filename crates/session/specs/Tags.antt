-- The tags that rows name.
use Rattle.std.specs.Prelude.{◌≡◌, ℕ, ◌<◌, ◌≤◌, Bool, false, cond, ◌||◌, List, [], ◌∷◌, ◌++◌, map, length, drop, Some, None, Option, ◌==◌, slice_index, slice_index_or}
use Rattle.std.specs.List.{list_any}
use Rattle.std.specs.Option.{option_to_list}
use Rattle.rows.specs.Arms.{arm_tag}
use Rattle.rows.specs.Expressions.{element_tag}
use Rattle.rows.specs.Programs.{ProgramRows}

-- what each expression and each arm names
abbrev pub marks : ProgramRows → List (Option ℕ)
marks p = map element_tag p.expressions ++ map arm_tag p.arms

-- an expression or an arm names this tag
abbrev pub Named : ProgramRows → ℕ → Type 0
Named p t = (i : ℕ) × (slice_index_or (marks p) i None ≡ Some t)

abbrev pub is_tag : Option ℕ → ℕ → Bool
is_tag None t = false
is_tag (Some s) t = s == t

abbrev pub names : List (Option ℕ) → ℕ → Bool
names [] t = false
names (o ∷ os) t = is_tag o t || names os t

-- what is named here and not once more behind
abbrev pub lasting : Option ℕ → List (Option ℕ) → Option ℕ
lasting None os = None
lasting (Some t) os = cond (names os t) None (Some t)

-- each tag once
abbrev pub distinct : List (Option ℕ) → List ℕ
distinct [] = []
distinct (o ∷ os) = option_to_list (lasting o os) ++ distinct os

-- how many tags are named
abbrev pub tag_count : ProgramRows → ℕ
tag_count p = length (distinct (marks p))

-- the tags, and behind them what is named, unless it is one of them
abbrev pub with_mark : List ℕ → Option ℕ → List ℕ
with_mark ts None = ts
with_mark ts (Some t) = cond (list_any (λ s. s == t) ts) ts (ts ++ (t ∷ []))

-- the same for one mark after the other
abbrev pub with_marks : List ℕ → List (Option ℕ) → List ℕ
with_marks ts [] = ts
with_marks ts (o ∷ os) = with_marks (with_mark ts o) os

-- The first n places of the list hold each named tag once and nothing else; the other places are as they were.
pub record ListsTags (p : ProgramRows) (n : ℕ) (before after : List ℕ) : Type 0 where
  pub number : n ≡ tag_count p
  pub long : length after ≡ length before
  pub there : n ≤ length before
  pub each : (i : ℕ) → i < n → Named p (slice_index after i)
  pub all : (t : ℕ) → Named p t → (i : ℕ) × (i < n) × (slice_index after i ≡ t)
  pub once : (i j : ℕ) → i < n → j < n → slice_index after i ≡ slice_index after j → i ≡ j
  pub rest : drop n after ≡ drop n before
