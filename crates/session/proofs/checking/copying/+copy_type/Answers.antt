use Rattle.std.proofs.Common.{rules, ◌≡◌, length, refl}
use Rattle.rows.specs.declared.type_row.TypeRow.TheVariants.{Sequence, Choice, Repetition}
use Rattle.types.specs.Parts.{row}
use Rattle.types.proofs.Contexts.{left, right, first, second, repeats}
use Rattle.session.specs.Progress.{table_of}
use Rattle.session.proofs.Making.{grows_on}
use Rattle.session.proofs.Copying.{longer, reads, part_walkable, walkable_on, no_parts, both_not, both_half, both_copied, either_not, either_half, either_copied, repeated_not, repeated_copied, single_copied}
use Rattle.session.proofs.checking.copying.+copy_type.Goals as goal

pub copy_type-requires : goal.copy_type-requires
copy_type-requires t c =
    let a = c.args in
    let at : row (table_of a.types.now a.counts.now) a.row ≡ Sequence c.in-Sequence.first c.in-Sequence.second = reads a.types.now a.counts.now a.row c.requires.walkable.there c.in-Sequence.is in
    let p = part_walkable c.requires.walkable at (left refl) in
    let low = p.1 in
    let w = p.0 in
    search rules

pub returns-in_err-left-in-Sequence-clause-copies : goal.returns-in_err-left-in-Sequence-clause-copies
returns-in_err-left-in-Sequence-clause-copies t c =
    let a = c.args in
    let at : row (table_of a.types.now a.counts.now) a.row ≡ Sequence c.in-Sequence.first c.in-Sequence.second = reads a.types.now a.counts.now a.row c.requires.walkable.there c.in-Sequence.is in
    both_not at c.in_err-left-in-Sequence.ensures.copies (search rules)

pub returns-in_err-left-in-Sequence-clause-grows : goal.returns-in_err-left-in-Sequence-clause-grows
returns-in_err-left-in-Sequence-clause-grows t c = c.copy_type.ensures.grows

pub copy_type-requires-in-Sequence : goal.copy_type-requires-in-Sequence
copy_type-requires-in-Sequence t c =
    let a = c.args in
    let at : row (table_of a.types.now a.counts.now) a.row ≡ Sequence c.in-Sequence.first c.in-Sequence.second = reads a.types.now a.counts.now a.row c.requires.walkable.there c.in-Sequence.is in
    let p = part_walkable c.requires.walkable at (right refl) in
    let low = p.1 in
    let w = walkable_on c.copy_type.ensures.grows p.0 in
    search rules

pub returns-in_err-right-in-Sequence-clause-copies : goal.returns-in_err-right-in-Sequence-clause-copies
returns-in_err-right-in-Sequence-clause-copies t c =
    let a = c.args in
    let at : row (table_of a.types.now a.counts.now) a.row ≡ Sequence c.in-Sequence.first c.in-Sequence.second = reads a.types.now a.counts.now a.row c.requires.walkable.there c.in-Sequence.is in
    let more = longer c.requires.long (let l : length c.copy_type.new.types ≡ 512 = search rules in l) c.copy_type.ensures.grows in
    both_half at c.in_ok-left-in-Sequence.ensures.copies more c.in_err-right-in-Sequence.ensures.copies (search rules)

pub returns-in_err-right-in-Sequence-clause-grows : goal.returns-in_err-right-in-Sequence-clause-grows
returns-in_err-right-in-Sequence-clause-grows t c = grows_on c.copy_type.ensures.grows c.copy_type-in-Sequence.ensures.grows

pub returns-in_ok-right-in-Sequence-clause-copies : goal.returns-in_ok-right-in-Sequence-clause-copies
returns-in_ok-right-in-Sequence-clause-copies t c =
    let a = c.args in
    let at : row (table_of a.types.now a.counts.now) a.row ≡ Sequence c.in-Sequence.first c.in-Sequence.second = reads a.types.now a.counts.now a.row c.requires.walkable.there c.in-Sequence.is in
    let more = longer c.requires.long (let l : length c.copy_type.new.types ≡ 512 = search rules in l) c.copy_type.ensures.grows in
    both_copied at c.in_ok-left-in-Sequence.ensures.copies more c.in_ok-right-in-Sequence.ensures.copies c.push_row.ensures.makes

pub returns-in_ok-right-in-Sequence-clause-grows : goal.returns-in_ok-right-in-Sequence-clause-grows
returns-in_ok-right-in-Sequence-clause-grows t c = grows_on c.copy_type.ensures.grows (grows_on c.copy_type-in-Sequence.ensures.grows c.push_row.ensures.grows)

pub copy_type-requires-in-Choice : goal.copy_type-requires-in-Choice
copy_type-requires-in-Choice t c =
    let a = c.args in
    let at : row (table_of a.types.now a.counts.now) a.row ≡ Choice c.in-Choice.first c.in-Choice.second = reads a.types.now a.counts.now a.row c.requires.walkable.there c.in-Choice.is in
    let p = part_walkable c.requires.walkable at (first refl) in
    let low = p.1 in
    let w = p.0 in
    search rules

pub returns-in_err-left-in-Choice-clause-copies : goal.returns-in_err-left-in-Choice-clause-copies
returns-in_err-left-in-Choice-clause-copies t c =
    let a = c.args in
    let at : row (table_of a.types.now a.counts.now) a.row ≡ Choice c.in-Choice.first c.in-Choice.second = reads a.types.now a.counts.now a.row c.requires.walkable.there c.in-Choice.is in
    either_not at c.in_err-left-in-Choice.ensures.copies (search rules)

pub returns-in_err-left-in-Choice-clause-grows : goal.returns-in_err-left-in-Choice-clause-grows
returns-in_err-left-in-Choice-clause-grows t c = c.copy_type-in-Choice.ensures.grows

pub copy_type-requires-in-Choice-2 : goal.copy_type-requires-in-Choice-2
copy_type-requires-in-Choice-2 t c =
    let a = c.args in
    let at : row (table_of a.types.now a.counts.now) a.row ≡ Choice c.in-Choice.first c.in-Choice.second = reads a.types.now a.counts.now a.row c.requires.walkable.there c.in-Choice.is in
    let p = part_walkable c.requires.walkable at (second refl) in
    let low = p.1 in
    let w = walkable_on c.copy_type-in-Choice.ensures.grows p.0 in
    search rules

pub returns-in_err-right-in-Choice-clause-copies : goal.returns-in_err-right-in-Choice-clause-copies
returns-in_err-right-in-Choice-clause-copies t c =
    let a = c.args in
    let at : row (table_of a.types.now a.counts.now) a.row ≡ Choice c.in-Choice.first c.in-Choice.second = reads a.types.now a.counts.now a.row c.requires.walkable.there c.in-Choice.is in
    let more = longer c.requires.long (let l : length c.copy_type-in-Choice.new.types ≡ 512 = search rules in l) c.copy_type-in-Choice.ensures.grows in
    either_half at c.in_ok-left-in-Choice.ensures.copies more c.in_err-right-in-Choice.ensures.copies (search rules)

pub returns-in_err-right-in-Choice-clause-grows : goal.returns-in_err-right-in-Choice-clause-grows
returns-in_err-right-in-Choice-clause-grows t c = grows_on c.copy_type-in-Choice.ensures.grows c.copy_type-in-Choice-2.ensures.grows

pub returns-in_ok-right-in-Choice-clause-copies : goal.returns-in_ok-right-in-Choice-clause-copies
returns-in_ok-right-in-Choice-clause-copies t c =
    let a = c.args in
    let at : row (table_of a.types.now a.counts.now) a.row ≡ Choice c.in-Choice.first c.in-Choice.second = reads a.types.now a.counts.now a.row c.requires.walkable.there c.in-Choice.is in
    let more = longer c.requires.long (let l : length c.copy_type-in-Choice.new.types ≡ 512 = search rules in l) c.copy_type-in-Choice.ensures.grows in
    either_copied at c.in_ok-left-in-Choice.ensures.copies more c.in_ok-right-in-Choice.ensures.copies c.push_row-in-Choice.ensures.makes

pub returns-in_ok-right-in-Choice-clause-grows : goal.returns-in_ok-right-in-Choice-clause-grows
returns-in_ok-right-in-Choice-clause-grows t c = grows_on c.copy_type-in-Choice.ensures.grows (grows_on c.copy_type-in-Choice-2.ensures.grows c.push_row-in-Choice.ensures.grows)

pub copy_type-requires-in-Repetition : goal.copy_type-requires-in-Repetition
copy_type-requires-in-Repetition t c =
    let a = c.args in
    let at : row (table_of a.types.now a.counts.now) a.row ≡ Repetition c.in-Repetition.part = reads a.types.now a.counts.now a.row c.requires.walkable.there c.in-Repetition.is in
    let p = part_walkable c.requires.walkable at (repeats refl) in
    let low = p.1 in
    let w = p.0 in
    search rules

pub returns-in_err-inner-in-Repetition-clause-copies : goal.returns-in_err-inner-in-Repetition-clause-copies
returns-in_err-inner-in-Repetition-clause-copies t c =
    let a = c.args in
    let at : row (table_of a.types.now a.counts.now) a.row ≡ Repetition c.in-Repetition.part = reads a.types.now a.counts.now a.row c.requires.walkable.there c.in-Repetition.is in
    repeated_not at c.in_err-inner-in-Repetition.ensures.copies (search rules)

pub returns-in_err-inner-in-Repetition-clause-grows : goal.returns-in_err-inner-in-Repetition-clause-grows
returns-in_err-inner-in-Repetition-clause-grows t c = c.copy_type-in-Repetition.ensures.grows

pub returns-in_ok-inner-in-Repetition-clause-copies : goal.returns-in_ok-inner-in-Repetition-clause-copies
returns-in_ok-inner-in-Repetition-clause-copies t c =
    let a = c.args in
    let at : row (table_of a.types.now a.counts.now) a.row ≡ Repetition c.in-Repetition.part = reads a.types.now a.counts.now a.row c.requires.walkable.there c.in-Repetition.is in
    repeated_copied at c.in_ok-inner-in-Repetition.ensures.copies c.push_row-in-Repetition.ensures.makes

pub returns-in_ok-inner-in-Repetition-clause-grows : goal.returns-in_ok-inner-in-Repetition-clause-grows
returns-in_ok-inner-in-Repetition-clause-grows t c = grows_on c.copy_type-in-Repetition.ensures.grows c.push_row-in-Repetition.ensures.grows

pub returns-in_default-clause-copies : goal.returns-in_default-clause-copies
returns-in_default-clause-copies t c =
    let a = c.args in
    single_copied (reads a.types.now a.counts.now a.row c.requires.walkable.there refl) (no_parts _ c.in_default.not-Sequence c.in_default.not-Choice c.in_default.not-Repetition) c.push_row-in_default.ensures.makes

pub returns-in_default-clause-grows : goal.returns-in_default-clause-grows
returns-in_default-clause-grows t c = c.push_row-in_default.ensures.grows
