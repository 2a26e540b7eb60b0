-- One turn of the loop that reads the records, and its end.
use Rattle.std.proofs.Common.{◌≡◌, ℕ, suc, ◌+◌, ◌*◌, ◌^◌, ◌<◌, ◌≤◌, min, ◌⊎◌, List, [], ◌∷◌, ◌++◌, length, take, drop, Err, sym, refl, ap, ◌∙◌, inl, inr, ⊎_elim, add-one, arith, below_more}
use Rattle.std.proofs.lemmas.List.{length-append, length-drop, length_push, take_at, take_all, drop_at, drop_all, drop-drop, append-nil, nil_from_length}
use Rattle.std.proofs.lemmas.Bool.{cases_eq}
use Rattle.forest.specs.Faults.{faulted}
use Rattle.forest.specs.declared.failure.Failure.{Failure}
use Rattle.forest.specs.declared.failure.Failure.TheVariants.{Refused}
use Rattle.forest.specs.declared.fault.Reason.TheVariants.{UnlawfulCapture}
use Rattle.capture.specs.declared.event.Event.{Event}
use Rattle.capture.specs.Captures.{Loaded}
use Rattle.capture.proofs.Legal.{InRange, Ranged, none, ranged_push}
use Rattle.capture.specs.Records.{record_at, record_count, time_before, LawfulAt, LawfulRecord, FirstUnlawful, AllLawful, event_of, events_of, events_of_first}

-- what a chunk is, and what stands after it
module _ (x y : List ℕ) (size : length x ≡ min 8 (length (x ++ y))) where
  whole_or_last : (length x ≡ 8) ⊎ ((y ≡ []) × (length (x ++ y) ≤ 8))
  whole_or_last =
      ⊎_elim
      inl
      (λ short. inr (nil_from_length y (omega (arith, length-append x y, short)), omega (arith, short)))
      (cases_eq (length x) 8)

  chunk_is : x ≡ take 8 (x ++ y)
  chunk_is =
      ⊎_elim
      (λ whole. sym (take_at x y 8 whole))
      (λ last. sym (append-nil x) ∙ ap (λ z. x ++ z) (sym last.0) ∙ sym (take_all 8 (x ++ y) last.1))
      whole_or_last

  rest-is : y ≡ drop 8 (x ++ y)
  rest-is =
      ⊎_elim
      (λ whole. sym (drop_at x y 8 whole))
      (λ last. last.0 ∙ sym (drop_all 8 (x ++ y) last.1))
      whole_or_last

-- After n records: what is left, the time of the last record, and the events so far.
pub record SoFar (bs left : List ℕ) (n time : ℕ) (es : List Event) : Type 0 where
  pub rest : left ≡ drop (8 * n) bs
  pub inside : n ≤ record_count bs
  pub few : n ≤ 1000
  pub since : time ≡ time_before bs n
  pub events : es ≡ events_of_first bs n
  pub long : length es ≡ n
  pub legal : (k : ℕ) → k < n → LawfulAt bs k
  pub ranged : Ranged es

pub start : (bs : List ℕ) → SoFar bs bs 0 0 []
start bs =
    record {
      rest = refl;
      inside = omega arith;
      few = omega arith;
      since = refl;
      events = refl;
      long = refl;
      legal = λ k lt. absurd (omega arith);
      ranged = none;
    }

-- a refusal that names the first unlawful record
refuses : (bs : List ℕ) (failure : Failure) (k i : ℕ) → FirstUnlawful bs k → i ≡ k → failure ≡ Refused (faulted UnlawfulCapture 5 i) → Loaded bs (Err failure)
refuses bs failure k i first at is = let named : faulted UnlawfulCapture 5 i ≡ faulted UnlawfulCapture 5 k = ap (faulted UnlawfulCapture 5) at in rw is (k, first, named)

-- the next chunk x, after which y is left
module _ (bs left x y : List ℕ) (n size time : ℕ) (es : List Event) (so : SoFar bs left n time es) (eight : size ≡ 8) (cut : (left ≡ x ++ y) × (length x ≡ min size (length left)) × (0 < length left)) where
  from : x ++ y ≡ drop (8 * n) bs
  from = sym cut.0 ∙ so.rest

  chunk : length x ≡ min 8 (length (x ++ y))
  chunk = cut.1 ∙ ap (λ m. min m (length left)) eight ∙ ap (λ l. min 8 (length l)) cut.0

  is-record : x ≡ record_at bs n
  is-record = chunk_is x y chunk ∙ ap (take 8) from

  there : n < record_count bs
  there = omega (arith, cut.2, ap length so.rest, length-drop (8 * n) bs)

  stops : (LawfulAt bs n → ⊥) → FirstUnlawful bs n
  stops bad = record { there = there; unlawful = bad; before = so.legal }

  pub one_too_many : (failure : Failure) (i : ℕ) → 1000 ≤ i → i ≡ n → failure ≡ Refused (faulted UnlawfulCapture 5 i) → Loaded bs (Err failure)
  one_too_many failure i past at = refuses bs failure n i (stops (λ l. omega (arith, l.few))) at

  pub unlawful-here : (failure : Failure) (i : ℕ) → (LawfulRecord time x → ⊥) → i ≡ n → failure ≡ Refused (faulted UnlawfulCapture 5 i) → Loaded bs (Err failure)
  unlawful-here failure i bad = refuses bs failure n i (stops (λ l. bad (rw (is-record, so.since) l.legal)))

  in_range : (e : Event) → LawfulRecord time x → e ≡ event_of x → e.time < 2 ^ 32 → InRange e
  in_range e good is short =
      record {
        time = omega arith;
        queue = omega (arith, ap (λ z. z.queue) is, good.queue);
        note = omega (arith, ap (λ z. z.note) is, good.note);
        velocity = omega (arith, ap (λ z. z.velocity) is, good.velocity);
      }

  pub goes_on : (e : Event) (m t : ℕ) → n < 1000 → m ≡ n + 1 → t ≡ e.time → LawfulRecord time x × (e ≡ event_of x) × (e.time < 2 ^ 32) → SoFar bs y m t (es ++ (e ∷ []))
  goes_on e m t lt next now-at read =
      let same : e ≡ event_of (record_at bs n) = read.1 ∙ ap event_of is-record in
      let after : m ≡ suc n = next ∙ add-one n in
      let here : LawfulAt bs n = record { few = lt; legal = rw (← is-record, ← so.since) read.0 } in
      rw after record {
        rest = rest-is x y chunk ∙ ap (drop 8) from ∙ drop-drop 8 (8 * n) bs ∙ ap (λ k. drop k bs) (omega arith);
        inside = there;
        few = lt;
        since = now-at ∙ ap (λ z. z.time) same;
        events = ap (λ z. es ++ (z ∷ [])) same ∙ ap (λ z. z ++ (event_of (record_at bs n) ∷ [])) so.events;
        long = length_push es e ∙ add-one (length es) ∙ ap suc so.long;
        legal = λ k below. below_more (LawfulAt bs) n so.legal here k (omega arith);
        ranged = ranged_push so.ranged (in_range e read.0 read.1 read.2);
      }

-- nothing is left
module _ (bs left : List ℕ) (n time : ℕ) (es : List Event) (so : SoFar bs left n time es) (none_left : length left ≡ 0) where
  all : n ≡ record_count bs
  all = omega (arith, so.inside, ap length so.rest, length-drop (8 * n) bs)

  pub all-lawful : AllLawful bs
  all-lawful k lt = so.legal k (omega (arith, all))

  pub all-events : es ≡ events_of bs
  all-events = so.events ∙ ap (events_of_first bs) all
