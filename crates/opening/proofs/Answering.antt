-- From a fault of the inputs, a short workspace or the settled cards to the answer. Assumes nothing.
use Rattle.std.proofs.Common.{◌≡◌, ℕ, ◌<◌, ◌≤◌, cond, ltb, ◌⊎◌, List, [], ◌∷◌, length, Some, None, Ok, Err, Result, sym, refl, ap, ◌∙◌, subst}
use Rattle.std.proofs.lemmas.Bool.{lt-ltb, le-ltb}
use Rattle.std.specs.Result.{IsErr, result_and}
use Rattle.field.specs.Codes.{Operations}
use Rattle.field.specs.Refusals.{listing, refused, foremost}
use Rattle.field.specs.declared.refusal.Refusal.{Refusal}
use Rattle.field.specs.declared.refusal.Refusal.TheVariants.{OpeningRoom}
use Rattle.field.proofs.Limits.{passed_over}
use Rattle.sharing.specs.Scheme.{Plan}
use Rattle.opening.specs.Answers.{Shut, Opened, Allowed, Answered}
use Rattle.opening.specs.Tables.{room, inputs_table}
use Rattle.opening.proofs.Faultless.{foremost-kept, foremost_next}

module _ (T : Type 0) (o : Operations) (p : Plan) (cards «data» : List ℕ) (L : ℕ) (before after : List ℕ) (workspace : ℕ) where
  -- a fault of the inputs is the answer
  pub answered_fault : (r : Result T Refusal) → IsErr r → refused r ≡ foremost (inputs_table o p cards «data» L (length before))
      → after ≡ before → Answered o p cards «data» L before after workspace r
  answered_fault (Ok x) fails found same = absurd cc
  answered_fault (Err e) fails found same =
      subst (Allowed {T = T} o p cards «data» L before after (Err e))
      (sym
      (foremost-kept (inputs_table o p cards «data» L (length before)) ((0x37, ltb workspace room, 0) ∷ []) (listing e) (sym found)))
      (refl, same)

  short_answer : (fit : Result T Refusal) → refused fit ≡ foremost (inputs_table o p cards «data» L (length before))
      → workspace < room → after ≡ before → Answered {T = T} o p cards «data» L before after workspace (result_and fit (Err OpeningRoom))
  short_answer (Err e) found short same = answered_fault (Err e) refl found same
  short_answer (Ok x) found short same =
      subst (Allowed {T = T} o p cards «data» L before after (Err OpeningRoom))
      (sym
      (foremost_next (inputs_table o p cards «data» L (length before)) ((0x37, ltb workspace room, 0) ∷ []) (sym found)
      ∙ ap (λ b. cond b (Some (0x37, 0)) None) (lt-ltb workspace room short)))
      (refl, same)

  -- of a short workspace the answer is a fault of the inputs, or that it is short
  pub answered_short : (fit r : Result T Refusal) → r ≡ result_and fit (Err OpeningRoom)
      → refused fit ≡ foremost (inputs_table o p cards «data» L (length before)) → workspace < room → after ≡ before
      → Answered {T = T} o p cards «data» L before after workspace r
  answered_short fit r is found short same =
      subst (Answered {T = T} o p cards «data» L before after workspace) (sym is) (short_answer fit found short same)

  -- where nothing is wrong, it is what comes of the cards
  pub answered_settled : (r : Result T Refusal) → None ≡ foremost (inputs_table o p cards «data» L (length before)) → room ≤ workspace
      → Shut o p cards before after r ⊎ Opened o p cards «data» L before after r
      → Answered {T = T} o p cards «data» L before after workspace r
  answered_settled r found enough settled =
      subst (Allowed o p cards «data» L before after r)
      (sym
      (foremost_next (inputs_table o p cards «data» L (length before)) ((0x37, ltb workspace room, 0) ∷ []) (sym found)
      ∙ passed_over 0x37 0 (ltb workspace room) [] (le-ltb workspace room enough)))
      settled
