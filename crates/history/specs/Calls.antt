-- Calls one after another.
use Rattle.std.specs.Prelude.{ℕ, List, [], ◌∷◌, map, length, take, Result}
use Rattle.forest.specs.declared.fault.Fault.{Fault}
use Rattle.session.specs.Calls.{Tables, Change, add_text, add_type, add_function, add_arm, add_expression, set_body, set_query, clear, applied}
use Rattle.history.specs.declared.call.Call.{Call}
use Rattle.history.specs.declared.call.Call.TheVariants.{Clear, AddText, AddType, AddFunction, AddArm, AddExpression, SetBody, SetQuery}

abbrev pub change_of : Call → Change
change_of Clear = clear
change_of (AddText text) = add_text text.now
change_of (AddType raw) = add_type raw
change_of (AddFunction p r) = add_function p r
change_of (AddArm raw) = add_arm raw
change_of (AddExpression raw) = add_expression raw
change_of (SetBody f row) = set_body f row
change_of (SetQuery q) = set_query q

-- the calls that are made: one for each place for an answer
abbrev pub made : List Call → List (Result ℕ Fault) → List Change
made calls places = take (length places) (map change_of calls)

-- the session at the end, and the answers
abbrev pub ran : Tables → List Change → Tables
ran t [] = t
ran t (c ∷ cs) = ran (applied t c).1 cs

abbrev pub replies : Tables → List Change → List (Result ℕ Fault)
replies t [] = []
replies t (c ∷ cs) = (applied t c).0 ∷ replies (applied t c).1 cs
