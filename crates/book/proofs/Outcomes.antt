-- Each call has one outcome. Assumes nothing.
use Rattle.std.proofs.Common.{◌≡◌, ℕ, ◌+◌, ◌<◌, List, length, Ok, Err, Result, sym, refl, ap, ◌∙◌, subst, ap₂, ⊎_elim, arith, ext_get_or, MatchResult}
use Rattle.std.proofs.lemmas.Bool.{cases_Bool, cases_lt}
use Rattle.refusals.specs.Number.{number}
use Rattle.refusals.specs.declared.Refusal.{Refusal}
use Rattle.refusals.proofs.Numbers.{number_one, some_number}
use Rattle.plans.specs.Meaning.{Meaning, Entry, has}
use Rattle.order.specs.Plain.{Call, State, accepted}
use Rattle.order.specs.Stamps.{stamped}
use Rattle.book.specs.declared.offer.Offer.{Offer}
use Rattle.book.specs.declared.floor.Floor.{Floor}
use Rattle.book.specs.Ends.{pair}
use Rattle.book.specs.Shown.{shown, settled_in, row_count, present_count}
use Rattle.book.specs.Calls.{Opened, settling, Accepted, Refused, StampsStay, StampsGrow, Offered, Settled, HandedOver, Withdrawn, StampRead}
use Rattle.book.proofs.Calling.{settled_grows}
use Rattle.book.proofs.Running.{stamped_agree}
use Rattle.book.specs.Outcomes.{ShowsSame, SameOutcome, OneOutcome}

module _ {X : Type 0} (meaning : X → Meaning) where
  same_refl : (f : Floor X) → ShowsSame meaning f f
  same_refl f = record { plan = refl; shows = refl; rows = λ i k h l. refl; stations = λ s k l. refl }

  -- two refusals of one call
  same_refused : (f f₁ f₂ : Floor X) (c : Call) (e₁ e₂ : Refusal) → Refused meaning f c e₁ f₁ → Refused meaning f c e₂ f₂ → (e₁ ≡ e₂) × ShowsSame meaning f₁ f₂
  same_refused f f₁ f₂ c e₁ e₂ a b = (number_one e₁ e₂ (a.number ∙ sym b.number), subst (ShowsSame meaning f₁) (a.same ∙ sym b.same) (same_refl f₁))

  -- a call is not both accepted and refused
  not_both : (f f₁ f₂ : Floor X) (c : Call) (e : Refusal) → Accepted meaning f c f₁ → Refused meaning f c e f₂ → ⊥
  not_both f f₁ f₂ c e a b = some_number e (b.number ∙ a.passes)

  -- two accepted calls that leave the stamps
  same_stays : (f f₁ f₂ : Floor X) (c : Call) → Accepted meaning f c f₁ → StampsStay f f₁ → Accepted meaning f c f₂ → StampsStay f f₂ → ShowsSame meaning f₁ f₂
  same_stays f f₁ f₂ c a s b t =
      record {
        plan = a.plan ∙ sym b.plan;
        shows = a.shows ∙ sym b.shows;
        rows = λ i k h l. ap (λ n. n i k) (s.rows ∙ sym t.rows);
        stations = λ i k l. ap (λ n. n i k) (s.stations ∙ sym t.stations);
      }

  -- two accepted settlements, on floors that show the same: what they leave depends on no more than that
  same_grows : (f f' f₁ f₂ : Floor X) (c : Call) (e : Entry) → ShowsSame meaning f f' → length (shown f₁.book).entries ≡ settled_in f.book + 1
      → Accepted meaning f c f₁ → StampsGrow meaning f e f₁ → Accepted meaning f' c f₂ → StampsGrow meaning f' e f₂ → ShowsSame meaning f₁ f₂
  same_grows f f' f₁ f₂ c e w n a s b t =
      let number : settled_in f.book ≡ settled_in f'.book = ap (λ (z : State). length z.entries) w.shows in
      let dials : (k : ℕ) → k < (meaning f₁.plan).dials → k < (meaning f.plan).dials = λ k l. subst (λ p. k < (meaning p).dials) a.plan l in
      let dials' : (k : ℕ) → k < (meaning f.plan).dials → k < (meaning f'.plan).dials = λ k l. subst (λ p. k < (meaning p).dials) w.plan l in
      let new : (k : ℕ) → k < (meaning f.plan).dials → row_count f₁.book (settled_in f.book) k ≡ row_count f₂.book (settled_in f.book) k =
      λ k l. s.new_row k l
      ∙ stamped_agree (meaning f.plan) (present_count f.book) (present_count f'.book) e k (λ z. w.stations z k l)
      ∙ ap (λ p. stamped (meaning p) (present_count f'.book) e k) w.plan
      ∙ sym (t.new_row k (dials' k l))
      ∙ ap (λ j. row_count f₂.book j k) (sym number) in
      record {
        plan = a.plan ∙ w.plan ∙ sym b.plan;
        shows = a.shows ∙ ap (λ (z : State). accepted z c) w.shows ∙ sym b.shows;
        rows = λ i k h l. ⊎_elim (λ o. s.old i k o ∙ w.rows i k o (dials k l) ∙ sym (t.old i k (subst (λ j. i < j) number o)))
            (λ o. let q : settled_in f.book ≡ i = omega (arith, n) in subst (λ j. row_count f₁.book j k ≡ row_count f₂.book j k) q (new k (dials k l))) (cases_lt i (settled_in f.book));
        stations = λ i k l.
            ⊎_elim
            (λ h. s.taken i k h ∙ new k (dials k l) ∙ ap (λ j. row_count f₂.book j k) number ∙ sym (t.taken i k h))
            (λ h. s.others i k h ∙ w.stations i k (dials k l) ∙ sym (t.others i k h))
            (cases_Bool (has i e));
      }

  same_settled : (f f' f₁ f₂ : Floor X) (o : Offer) (n n' : ℕ)
      → ShowsSame meaning f f' → Settled meaning f o (Ok n) f₁ → Settled meaning f' o (Ok n') f₂ → (n ≡ n') × ShowsSame meaning f₁ f₂
  same_settled f f' f₁ f₂ o n n' w a b = (
    a.0 ∙ ap (λ (z : State). length z.entries) w.shows ∙ sym b.0,
    same_grows f f' f₁ f₂ (settling o) (pair o.ends) w (settled_grows meaning o a.1) a.1 a.2 b.1 b.2,
  )

  one_new : (p : X) (f f' : Floor X) → Opened p f → Opened p f' → ShowsSame meaning f f'
  one_new p f f' a b =
      record {
        plan = a.plan ∙ sym b.plan;
        shows = a.shows ∙ sym b.shows;
        rows = λ i k h l. absurd (let z = ap (λ s. length s.entries) a.shows in omega (arith, z));
        stations = λ s k l. a.counts s k ∙ sym (b.counts s k);
      }

  one_offered : (f f₁ f₂ : Floor X) (g t : ℕ) (r₁ r₂ : Result Offer Refusal) → Offered meaning f g t r₁ f₁ → Offered meaning f g t r₂ f₂ → SameOutcome meaning r₁ f₁ r₂ f₂
  one_offered f f₁ f₂ g t (Ok o) (Ok o') a b = record { reply = ap Ok (a.0 ∙ sym b.0); floor = same_stays f f₁ f₂ _ a.1 a.2 b.1 b.2 }
  one_offered f f₁ f₂ g t (Ok o) (Err e) a b = absurd (not_both f f₁ f₂ _ e a.1 b)
  one_offered f f₁ f₂ g t (Err e) (Ok o) a b = absurd (not_both f f₂ f₁ _ e b.1 a)
  one_offered f f₁ f₂ g t (Err e) (Err e') a b = let q = same_refused f f₁ f₂ _ e e' a b in record { reply = ap Err q.0; floor = q.1 }

  one_settled : (f f₁ f₂ : Floor X) (o : Offer) (r₁ r₂ : Result ℕ (Refusal × Offer)) → Settled meaning f o r₁ f₁ → Settled meaning f o r₂ f₂ → SameOutcome meaning r₁ f₁ r₂ f₂
  one_settled f f₁ f₂ o (Ok n) (Ok n') a b =
      let q = same_settled f f f₁ f₂ o n n' (same_refl f) a b in record { reply = ap Ok q.0; floor = q.1 }
  one_settled f f₁ f₂ o (Ok n) (Err e) a b = absurd (not_both f f₁ f₂ _ e.0 a.1 b.1)
  one_settled f f₁ f₂ o (Err e) (Ok n) a b = absurd (not_both f f₂ f₁ _ e.0 b.1 a.1)
  one_settled f f₁ f₂ o (Err e) (Err e') a b =
      let q = same_refused f f₁ f₂ _ e.0 e'.0 a.1 b.1 in record { reply = ap₂ (λ x y. Err (x, y)) q.0 (a.0 ∙ sym b.0); floor = q.1 }

  -- the floors in the middle show the same, so the settlements leave the same
  one_handed : (f f₁ f₂ : Floor X) (g t : ℕ) (r₁ r₂ : Result ℕ Refusal) → HandedOver meaning f g t r₁ f₁ → HandedOver meaning f g t r₂ f₂ → SameOutcome meaning r₁ f₁ r₂ f₂
  one_handed f f₁ f₂ g t (Ok n) (Ok n') a b =
      let middle = same_stays f a.one b.one _ a.offered.1 a.offered.2 b.offered.1 b.offered.2 in
      let q = same_settled a.one b.one f₁ f₂ b.pending n n' middle (subst (λ (o : Offer). Settled meaning a.one o (Ok n) f₁) (a.offered.0 ∙ sym b.offered.0) a.settled) b.settled in
      record { reply = ap Ok q.0; floor = q.1 }
  one_handed f f₁ f₂ g t (Ok n) (Err e) a b = absurd (not_both f a.one f₂ _ e a.offered.1 b)
  one_handed f f₁ f₂ g t (Err e) (Ok n) a b = absurd (not_both f b.one f₁ _ e b.offered.1 a)
  one_handed f f₁ f₂ g t (Err e) (Err e') a b = let q = same_refused f f₁ f₂ _ e e' a b in record { reply = ap Err q.0; floor = q.1 }

  one_withdrawn : (f f₁ f₂ : Floor X) (o : Offer) (r₁ r₂ : Result (Unit {0}) Refusal) → Withdrawn meaning f o r₁ f₁ → Withdrawn meaning f o r₂ f₂ → SameOutcome meaning r₁ f₁ r₂ f₂
  one_withdrawn f f₁ f₂ o (Ok x) (Ok y) a b = record { reply = refl; floor = same_stays f f₁ f₂ _ a.0 a.1 b.0 b.1 }
  one_withdrawn f f₁ f₂ o (Ok x) (Err e) a b = absurd (not_both f f₁ f₂ _ e a.0 b)
  one_withdrawn f f₁ f₂ o (Err e) (Ok x) a b = absurd (not_both f f₂ f₁ _ e b.0 a)
  one_withdrawn f f₁ f₂ o (Err e) (Err e') a b = let q = same_refused f f₁ f₂ _ e e' a b in record { reply = ap Err q.0; floor = q.1 }

  -- two replies to a question, which is refused by the number n or told x
  one_reply : {A : Type 0} (n : ℕ) (x : A) (r₁ r₂ : Result A Refusal)
      → MatchResult r₁ (λ o. (n ≡ 0) × (o ≡ x)) (λ e. number e ≡ n) → MatchResult r₂ (λ o. (n ≡ 0) × (o ≡ x)) (λ e. number e ≡ n) → r₁ ≡ r₂
  one_reply n x (Ok o) (Ok o') p q = ap Ok (p.1 ∙ sym q.1)
  one_reply n x (Ok o) (Err e) p q = absurd (some_number e (q ∙ p.0))
  one_reply n x (Err e) (Ok o) p q = absurd (some_number e (p ∙ q.0))
  one_reply n x (Err e) (Err e') p q = ap Err (number_one e e' (p ∙ sym q))

  one_stamp : (f : Floor X) (i : ℕ) (before after₁ after₂ : List ℕ) (r₁ r₂ : Result (Unit {0}) Refusal)
      → StampRead meaning f i before r₁ after₁ → StampRead meaning f i before r₂ after₂ → (r₁ ≡ r₂) × (after₁ ≡ after₂)
  one_stamp f i before after₁ after₂ (Ok x) (Ok y) p q =
      let v = p.1 in
      let w = q.1 in (
        refl,
        ext_get_or 0 after₁ after₂ (v.length ∙ sym w.length)
            (λ k h. ⊎_elim (λ l. v.first k l ∙ sym (w.first k l)) (λ l. v.rest k l ∙ sym (w.rest k l)) (cases_lt k (meaning f.plan).dials)),
      )
  one_stamp f i before after₁ after₂ (Ok x) (Err e) p q = absurd (some_number e (q.0 ∙ p.0))
  one_stamp f i before after₁ after₂ (Err e) (Ok x) p q = absurd (some_number e (p.0 ∙ q.0))
  one_stamp f i before after₁ after₂ (Err e) (Err e') p q = (ap Err (number_one e e' (p.0 ∙ sym q.0)), p.1 ∙ sym q.1)

  pub one_outcome : OneOutcome meaning
  one_outcome = record { opens = one_new; offers = one_offered; settles = one_settled; hands_over = one_handed; withdraws = one_withdrawn; relates = λ f a b. one_reply _ _; stamps = one_stamp; lasts = λ f s. one_reply _ _ }
