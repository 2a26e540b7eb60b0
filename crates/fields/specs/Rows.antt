-- How numbers of so many bits, lists of numbers and the rows of a table are written.
use Rattle.std.specs.Prelude.{ℕ, List, Option}
use Rattle.std.specs.Option.{option_map}
use Rattle.table.specs.declared.row.RawRow.{RawRow}
use Rattle.fields.specs.Lists.{pieces, each, or_none}
use Rattle.fields.specs.Numbers.{number, signed_number}
use Rattle.fields.specs.Words.{Reader, given, quintuple}

abbrev pub number8 : Reader ℕ
number8 = number 255

abbrev pub number32 : Reader ℕ
number32 = number 4294967295

-- numbers joined by `,`
abbrev pub numbers_of : Reader (List ℕ)
numbers_of = or_none (λ word. each number32 (pieces 44 word))

-- the fields of a row
abbrev pub row_of_fields : List ℕ × List ℕ × List ℕ × List ℕ × List ℕ → Option RawRow
row_of_fields w =
    given (number8 w.0) (λ k. given (number32 w.1) (λ t. given (number32 w.2) (λ f. given (number32 w.3) (λ l.
    option_map (λ v. record { kind = k; tag = t; from = f; length = l; value = v }) (signed_number w.4)))))

-- `kind,tag,from,length,value`
abbrev pub row_of : Reader RawRow
row_of word = given (quintuple (pieces 44 word)) row_of_fields

-- rows joined by `;`
abbrev pub rows_of : Reader (List RawRow)
rows_of = or_none (λ word. each row_of (pieces 59 word))
