-- What the answers of a check come to: the table passes exactly a sound plan with room enough, one answer is allowed, and
-- it grants exactly where every group passes. Assumes nothing.
use Rattle.std.proofs.Common.{◌≡◌, ℕ, ◌≤◌, ltb, ◌⊎◌, List, [], ◌∷◌, Some, None, Option, sym, refl, ap, ◌∙◌, subst, inl, inr}
use Rattle.std.proofs.lemmas.Bool.{ltb-false, le-ltb}
use Rattle.field.specs.Codes.{Operations}
use Rattle.field.specs.Refusals.{foremost}
use Rattle.field.proofs.Limits.{passed_over}
use Rattle.sharing.specs.Groups.{Group, FirstBad, before, bits}
use Rattle.sharing.specs.Scheme.{Plan, Sound}
use Rattle.plan_check.specs.declared.property.Property.{Property}
use Rattle.plan_check.specs.declared.property.Property.TheVariants.{Opening, Hiding}
use Rattle.plan_check.specs.Checks.{Allowed, Settled, Searched, AllPass, Passes, Grants, OnlyAnswer, table, failure, group_size}
use Rattle.plan_check.specs.Faults.{faults}
use Rattle.plan_check.proofs.Faults.{some_none, passed, passed_both, passed_on, sound_faultless, faultless_sound}
use Rattle.plan_check.proofs.Ranks.{before-total}

module _ (o : Operations) (p : Plan) (room : ℕ) where
  -- the table passes over a sound plan with room enough
  pub table_none : Sound o p → 4096 ≤ room → foremost (table o p room) ≡ None
  table_none sound enough =
      passed_on (faults o p) ((0x13, ltb room 4096, 0) ∷ []) (sound_faultless o p sound)
      (passed_over 0x13 0 (ltb room 4096) [] (le-ltb room 4096 enough))

  -- and over nothing else
  pub table_sound : foremost (table o p room) ≡ None → Sound o p × (4096 ≤ room)
  table_sound e =
      let both = passed_both (faults o p) ((0x13, ltb room 4096, 0) ∷ []) e in
      (faultless_sound o p both.0, ltb-false room 4096 (passed (0x13, ltb room 4096, 0) [] both.1).0)

-- the first bad group has one place in the dictionary
first_bad_only : (Good : List ℕ → Type 0) (n k : ℕ) (g h : List ℕ) → FirstBad Good n k g → FirstBad Good n k h → g ≡ h
first_bad_only Good n k g h first other = go (before-total g h (first.is_group.0 ∙ sym other.is_group.0))
  where
    go : (g ≡ h) ⊎ (before g h ⊎ before h g) → g ≡ h
    go (inl same) = same
    go (inr (inl b)) = absurd (first.bad (other.good_before g first.is_group b))
    go (inr (inr b)) = absurd (other.bad (first.good_before h other.is_group b))

-- all groups pass exactly if each does
pub all_pass : (w : Property) (o : Operations) (p : Plan)
    → ((g : List ℕ) → Group p.n (group_size w p.t) g → Passes w o p g) → AllPass w o p
all_pass Opening o p each = each
all_pass Hiding o p each = each

each_passes : (w : Property) (o : Operations) (p : Plan) → AllPass w o p
    → (g : List ℕ) → Group p.n (group_size w p.t) g → Passes w o p g
each_passes Opening o p all = all
each_passes Hiding o p all = all

module _ (w : Property) (o : Operations) (p : Plan) where
  -- where all groups pass there is no first bad one
  no_first_bad : AllPass w o p → (g : List ℕ) → FirstBad (Passes w o p) p.n (group_size w p.t) g → ⊥
  no_first_bad all g first = first.bad (each_passes w o p all g first.is_group)

  searched_only : (a b : Option (ℕ × ℕ)) → Searched w o p a → Searched w o p b → b ≡ a
  searched_only None None ha hb = refl
  searched_only None (Some s) ha hb = absurd (no_first_bad ha hb.0 hb.1)
  searched_only (Some r) None ha hb = absurd (no_first_bad hb ha.0 ha.1)
  searched_only (Some r) (Some s) ha hb =
      let same = first_bad_only (Passes w o p) p.n (group_size w p.t) hb.0 ha.0 hb.1 ha.1 in
      ap Some (hb.2 ∙ ap (λ g. (failure w, bits g)) same ∙ sym ha.2)

  searched_all : (a : Option (ℕ × ℕ)) → Searched w o p a → a ≡ None → AllPass w o p
  searched_all a h e = subst (Searched w o p) e h

  searched_granted : (a : Option (ℕ × ℕ)) → Searched w o p a → AllPass w o p → a ≡ None
  searched_granted None h all = refl
  searched_granted (Some r) h all = absurd (no_first_bad all h.0 h.1)

  module _ (room : ℕ) (a : Option (ℕ × ℕ)) where
    -- no other answer is allowed
    pub only_answer : Allowed w o p room a → OnlyAnswer w o p room a
    only_answer ha other hb = go (foremost (table o p room)) ha hb
      where
        go : (f : Option (ℕ × ℕ)) → Settled w o p f a
            → Settled w o p f other → other ≡ a
        go (Some r) x y = y ∙ sym x
        go None x y = searched_only a other x y

    -- granted exactly where the plan is sound, the room is enough and every group passes
    pub grants : Allowed w o p room a → Grants w o p room a
    grants h = (λ e. granted (foremost (table o p room)) refl h e, λ all. granting (foremost (table o p room)) refl h all)
      where
        granted : (f : Option (ℕ × ℕ)) → foremost (table o p room) ≡ f
            → Settled w o p f a → a ≡ None → Sound o p × (4096 ≤ room) × AllPass w o p
        granted (Some r) f x e = absurd (some_none r (sym x ∙ e))
        granted None f x e = let sound = table_sound o p room f in (sound.0, sound.1, searched_all a x e)

        granting : (f : Option (ℕ × ℕ)) → foremost (table o p room) ≡ f
            → Settled w o p f a → Sound o p × (4096 ≤ room) × AllPass w o p → a ≡ None
        granting (Some r) f x all = absurd (some_none r (sym f ∙ table_none o p room all.0 all.1))
        granting None f x all = searched_granted a x all.2
