-- What a contract sees of a table of rows.
use Rattle.std.specs.Prelude.{List, refl}
use Rattle.std.specs.Coded.{Coded, code_by, coded_list}

-- the rows that are there, in their order
pub record Held (T : Type 0) : Type 0 where
  pub items : List T

-- they are stored as the list that they are
abbrev pub held_code : {T : Type 0} → Coded T → Coded (Held T)
held_code {T} code = code_by (List T) (coded_list code) (λ t. t.items) (λ xs. record { items = xs }) (λ _. refl)
