-- Setting a function's body.
use Rattle.std.specs.Prelude.{ℕ, List, Some, None, slice_index_or, slice_set}
use Rattle.rows.specs.declared.function.Function.{Function}

abbrev pub no_function : Function
no_function = record { parameter = 0; result = 0; body = None }

abbrev pub with_body : Function → ℕ → Function
with_body f row = record { parameter = f.parameter; result = f.result; body = Some row }

-- the functions with the body of one set, and every other as it was
abbrev pub body_set : List Function → ℕ → ℕ → List Function
body_set fs f row = slice_set fs f (with_body (slice_index_or fs f no_function) row)
