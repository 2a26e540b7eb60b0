use Rattle.std.proofs.Common.{◌≡◌, ℕ, ◌+◌, ◌*◌, ◌<◌, ◌≤◌, true, ◌⊎◌, sym, ◌∙◌, subst, inl, inr, arith}
use Rattle.bits.specs.Bits.{related, FirstOf}
use Rattle.bits.proofs.Laws.{bit-within}
use Rattle.bits.proofs.RowItems.{row_front, row_empty}
use Rattle.positions.specs.declared.moves.Moves.{Moves}
use Rattle.positions.proofs.moves.Moves.next_item.Goals as goal

-- past the last place, or past the last item, nothing is found
none : (m : Moves) (place from n : ℕ) → (1024 ≤ place) ⊎ ((place < 1024) × (512 ≤ from)) → from ≤ n → n < 512 → related m.next.words place n ≡ true → ⊥
none m place from n (inl past) a b e = let i = bit-within m.next.words (place * 512 + n) e in let l = m.next.long in omega arith
none m place from n (inr past) a b e = let l = past.1 in omega arith

pub returns-then-place-ge1024 : goal.returns-then-place-ge1024
returns-then-place-ge1024 c n = none c.args.self.now c.args.place c.args.from n c.then-place-ge1024.either

pub returns-in_err-item : goal.returns-in_err-item
returns-in_err-item c =
    let ws = c.args.self.now.next.words in
    let P : ℕ → Type 0 = λ n. related ws c.args.place n ≡ true in
    subst (FirstOf P c.args.from 512) (sym c.from_residual.ensures) (row_empty ws c.args.place c.args.from (sym c.items_from.ensures ∙ c.in_err-item.ensures.steps.0))

pub returns : goal.returns
returns c = (row_front c.args.self.now.next.words c.args.place c.args.from c.in_ok-item.item _ (sym c.items_from.ensures ∙ c.in_ok-item.ensures.steps)).0
