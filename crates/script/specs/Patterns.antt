-- So many words, each read by itself, and what is made of them.
use Rattle.std.specs.Prelude.{ℕ, List, length, Option, ◌==◌}
use Rattle.std.specs.Option.{option_map}
use Rattle.std.specs.Bool.{then_some}
use Rattle.fields.specs.Lists.{each}
use Rattle.fields.specs.Words.{Reader, only, first, pair, triple, quintuple, given}

abbrev pub none : {Y : Type 0} → Y → List (List ℕ) → Option Y
none y words = then_some (length words == 0) y

abbrev pub one : {A Y : Type 0} → Reader A → (A → Y) → List (List ℕ) → Option Y
one ra make words = given (only words) (λ w. option_map make (ra w))

abbrev pub two : {A B Y : Type 0} → Reader A → Reader B → (A → B → Y) → List (List ℕ) → Option Y
two ra rb make words = given (pair words) (λ w. given (ra w.0) (λ a. option_map (make a) (rb w.1)))

abbrev pub three : {A B C Y : Type 0} → Reader A → Reader B → Reader C → (A → B → C → Y) → List (List ℕ) → Option Y
three ra rb rc make words = given (triple words) (λ w. given (ra w.0) (λ a. given (rb w.1) (λ b. option_map (make a b) (rc w.2))))

abbrev pub five : {A B C D E Y : Type 0} → Reader A → Reader B → Reader C → Reader D → Reader E → (A → B → C → D → E → Y) → List (List ℕ) → Option Y
five ra rb rc rd re make words =
    given (quintuple words) (λ w. given (ra w.0) (λ a. given (rb w.1) (λ b. given (rc w.2) (λ c. given (rd w.3) (λ d.
    option_map (make a b c d) (re w.4))))))

-- one word, and then any number of words that are read alike
abbrev pub one_then : {A B Y : Type 0} → Reader A → Reader B → (A → List B → Y) → List (List ℕ) → Option Y
one_then ra rb make words = given (first words) (λ w. given (ra w.0) (λ a. option_map (make a) (each rb w.1)))
