-- Functions and the query: when their fields are in range.
use Rattle.std.specs.Prelude.{ℕ, Bool, ◌&&◌, nat_lt}
use Rattle.rows.specs.declared.function.Function.{Function}
use Rattle.rows.specs.declared.function.Query.{Query}

abbrev pub function_fits : Function → Bool
function_fits f = nat_lt f.parameter 512 && nat_lt f.result 512

abbrev pub query_fits : ℕ → Query → Bool
query_fits n q = nat_lt q.input 512 && nat_lt q.row n
