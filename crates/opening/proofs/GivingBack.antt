-- t different cards of a deal under an admitted plan give its key back. Assumes nothing.
use Rattle.std.proofs.Common.{◌≡◌, ℕ, ◌-◌, ◌*◌, ◌<◌, true, cond, List, [], ◌∷◌, length, take, replicate, is_some, is_ok, None, Ok, Err, Result, unwrap_or, sym, refl, ap, ◌∙◌, subst, ⊎_elim, arith}
use Rattle.std.proofs.lemmas.List.{get_or-append_right, take-append-le, take_all}
use Rattle.field.specs.Codes.{Operations, Laws}
use Rattle.field.specs.Refusals.{listing, refused, foremost}
use Rattle.field.specs.declared.refusal.Refusal.{Refusal}
use Rattle.sharing.specs.Scheme.{Plan, Codes, Deal, lanes, padded, store, word}
use Rattle.plan_check.proofs.Faults.{some_none}
use Rattle.opening.specs.Answers.{padding, Opened, Allowed, Answered, data_of, GivesBack}
use Rattle.opening.specs.Words.{Given, opened, first_loose}
use Rattle.opening.proofs.Deals.{length_data_of, data_codes, given_of_deal, opened_of_deal}
use Rattle.opening.proofs.Faultless.{Faultless, table_faultless}
use Rattle.opening.proofs.Limits.{lanes_some}
use Rattle.opening.proofs.Loose.{zero_at, loose_none}

-- an answer that is no refusal is granted
granted : {T : Type 0} (r : Result T Refusal) → refused r ≡ None → is_ok r ≡ true
granted (Ok x) e = refl
granted (Err e) s = absurd (some_none (listing e) s)

-- the padding of a padded key is zero
padding_zero : (t L : ℕ) (key : List ℕ) → length key ≡ L → first_loose L (padded t L key) ≡ None
padding_zero t L key long =
    loose_none L (padded t L key)
    (λ j l h. get_or-append_right key (replicate (t * lanes t L - L) 0) L j 0 long l ∙ zero_at (t * lanes t L - L) (j - L))

-- the first numbers of a padded key are the key
key_of-padded : (t L : ℕ) (key : List ℕ) → length key ≡ L → take L (padded t L key) ≡ key
key_of-padded t L key long =
    take-append-le L key (replicate (t * lanes t L - L) 0) (omega arith) ∙ take_all L key (omega arith)

module _ {T : Type 0} {o : Operations} (laws : Laws o) (p : Plan) (cards «data» : List ℕ) (L : ℕ) (before after : List ℕ)
    (workspace : ℕ) (r : Result T Refusal) where
  -- the padded key that was opened is the deal's, so that the key is handed over
  back_of_opened : (key dummies : List ℕ) → 0 < p.t → Deal o p L key dummies → length cards ≡ p.t
      → «data» ≡ data_of o p (lanes p.t L) (store p.t L key dummies) cards
      → Opened o p cards «data» L before after r → (is_ok r ≡ true) × (after ≡ key)
  back_of_opened key dummies pos deal count written answer =
      (ok, answer.place ∙ ap (λ b. cond b (take L whole) before) ok ∙ ap (take L) same ∙ key_of-padded p.t L key deal.key_of.0)
    where
      whole : List ℕ
      whole = opened o p.t (lanes p.t L) answer.words

      same : whole ≡ padded p.t L key
      same =
          opened_of_deal laws p L key dummies pos deal answer.words
          (answer.only (word o p.t (lanes p.t L) (store p.t L key dummies))
          (subst
          (λ d. Given o p (lanes p.t L) cards d (word o p.t (lanes p.t L) (store p.t L key dummies)))
          (sym written)
          (given_of_deal laws p L key dummies pos deal cards count)))
          (lanes_some p.t L pos deal.some)

      ok : is_ok r ≡ true
      ok =
          granted r
          (answer.refusal
          ∙ ap (λ key. foremost (padding L key)) same
          ∙ ap (λ f. foremost ((0x38, is_some f, unwrap_or f 0) ∷ [])) (padding_zero p.t L key deal.key_of.0))

  pub gives_back : Answered o p cards «data» L before after workspace r → GivesBack o p cards «data» L before after workspace r
  gives_back answered key dummies sound admits deal count below different written placed enough =
      ⊎_elim (λ shut. absurd (shut.shut (admits shut.group shut.of_cards.is_group)))
      (back_of_opened key dummies pos deal count written)
      (subst (Allowed o p cards «data» L before after r) (table_faultless o p cards «data» L (length before) workspace faultless enough) answered)
    where
      pos : 0 < p.t
      pos = omega (arith, sound.least)

      faultless : Faultless o p cards «data» L (length before) workspace
      faultless =
          record {
            sound = sound;
            numbers = record { count = count; below = below; different = different };
            measure =
                record {
                  some = deal.some;
                  most = deal.most;
                  long =
                      ap length written
                      ∙ length_data_of o p (lanes p.t L) (store p.t L key dummies) cards
                      ∙ ap (λ k. k * (p.t * lanes p.t L)) count;
                  codes =
                      subst (Codes o) (sym written)
                      (data_codes laws p (lanes p.t L) (store p.t L key dummies) cards);
                };
            placed = placed;
          }
