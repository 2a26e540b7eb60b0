use Rattle.std.proofs.Common.{ℕ, ◌<◌, ◌≤◌, List, length, Some, None, Option, rules, arith}
use borrow.Author.Tests.{tests}
use Rattle.std.specs.Option.{MatchOption}
use Rattle.std.proofs.lemmas.Iterator.{first_from_Range}
use Rattle.rows.specs.declared.type_row.TypeRow.{TypeRow}
use Rattle.types.specs.Parts.{Root}
use Rattle.types.specs.Determinism.{Deterministic}
use Rattle.types.specs.Tables.{Lowest}
use Rattle.types.proofs.OfTable.{table-long}
use Rattle.positions.specs.Built.{types_of}
use Rattle.positions.proofs.tables.Positions.first_ambiguous.Goals as goal

-- a search among all rows finds the lowest
lowest : (ts : List TypeRow) (P : ℕ → Type 0) (n : ℕ) (r : Option ℕ) → n ≤ length ts → length ts ≤ n
    → MatchOption r ((k : ℕ) → 0 ≤ k → k < n → k < length ts → P k) (λ i. (0 ≤ i) × (i < n) × (i < length ts → P i → ⊥) × ((k : ℕ) → 0 ≤ k → k < i → k < length ts → P k)) → Lowest r ts P
lowest ts P n None low high m = λ k l. m k (omega arith) (omega arith) l
lowest ts P n (Some i) low high m = let b = m.1 in record { there = omega arith; fails = m.2 (omega arith); before = λ k l. m.3 k (omega arith) l (omega arith) }

pub returns : goal.returns
returns c b =
    let ts = types_of c.args.self.now in
    let long = table-long c.args.self.now.types in
    let P : ℕ → Type 0 = λ n. Root ts n → Deterministic ts n in
    lowest ts P c.args.self.now.types.count c.find.result (omega arith) (omega arith)
    (first_from_Range _ _ _ c.find.result (λ n. n < length ts → P n → ⊥) (λ n. n < length ts → P n) c.find.ensures.ran (λ x q k. search (rules, tests)) (λ x q k. search (rules, tests)))
