-- The lineage of an action after one more entry: so its outermost action and its depth stay; and its depth by its
-- parent.
use Rattle.std.proofs.Common.{◌≡◌, ℕ, zero, suc, ◌≤◌, Bool, true, List, [], ◌∷◌, ◌++◌, length, Option, Some, None, refl}
use Rattle.std.proofs.Common.{ap, ◌∙◌, arith}
use Rattle.std.specs.Prelude.{unwrap_or}
use Rattle.std.specs.Option.{option_map_or}
use Rattle.lra_model.specs.declared.entry.Entry.{Entry}
use Rattle.lra_model.specs.declared.version.Version.{Version}
use Rattle.lra_model.specs.History.{History, last, actions, is_among}
use Rattle.lra_model.specs.Actions.{parent, lineage_within, lineage, top, depth}
use Rattle.lra_model.specs.Rules.{is_legal}
use Rattle.lra_laws.proofs.Climbs.{top_within, top_climbs}
use Rattle.lra_laws.proofs.GoodWalks.{lineage_lem, top_lem}
use Rattle.lra_laws.proofs.Named.{parent_stays, parent_there}

-- the lineage of an action that is there stays
lineage_within_stays : (v : Version) (t : List ℕ → Bool) (J : History) (e : Entry) → is_legal v t J ≡ true → (n a : ℕ)
    → is_among (actions J) a ≡ true → lineage_within n (J ++ e ∷ []) a ≡ lineage_within n J a
lineage_within_stays v t J e l zero a h = refl
lineage_within_stays v t J e l (suc n) a h =
    ap (λ (o : Option ℕ). a ∷ option_map_or (lineage_within n (J ++ e ∷ [])) o []) (parent_stays J e a h)
    ∙ ap (λ (ns : List ℕ). a ∷ ns) (above (parent J a) refl (λ b k. lineage_within_stays v t J e l n b k))
  where
    above : (o : Option ℕ) → parent J a ≡ o → ((b : ℕ) → is_among (actions J) b ≡ true
        → lineage_within n (J ++ e ∷ []) b ≡ lineage_within n J b)
        → option_map_or (lineage_within n (J ++ e ∷ [])) o [] ≡ option_map_or (lineage_within n J) o []
    above None k ih = refl
    above (Some b) k ih = ih b (parent_there v t J l a b k).parent

lineage_stays : (v : Version) (t : List ℕ → Bool) (J : History) (e : Entry) → is_legal v t J ≡ true → (a : ℕ)
    → is_among (actions J) a ≡ true → lineage (J ++ e ∷ []) a ≡ lineage J a
lineage_stays v t J e l a h = lineage_within_stays v t J e l a a h

-- so does the outermost action above it
pub top_stays : (v : Version) (t : List ℕ → Bool) (J : History) (e : Entry) → is_legal v t J ≡ true → (a : ℕ)
    → is_among (actions J) a ≡ true → top (J ++ e ∷ []) a ≡ top J a
unfolding top
top_stays v t J e l a h = ap (λ (ns : List ℕ). unwrap_or (last ns) a) (lineage_stays v t J e l a h)

-- so does how deep it is nested
pub depth_stays : (v : Version) (t : List ℕ → Bool) (J : History) (e : Entry) → is_legal v t J ≡ true → (a : ℕ)
    → is_among (actions J) a ≡ true → depth (J ++ e ∷ []) a ≡ depth J a
unfolding depth
depth_stays v t J e l a h = ap (λ (ns : List ℕ). length ns) (lineage_stays v t J e l a h)

-- the outermost action above one that is there is there
pub top_is_there : (v : Version) (t : List ℕ → Bool) (J : History) → is_legal v t J ≡ true → (a : ℕ)
    → is_among (actions J) a ≡ true → is_among (actions J) (top J a) ≡ true
top_is_there v t J l a h = ap (is_among (actions J)) (top_climbs J a) ∙ within a a h
  where
    within : (n b : ℕ) → is_among (actions J) b ≡ true → is_among (actions J) (top_within n J b) ≡ true
    within zero b g = g
    within (suc n) b g = above (parent J b) refl (λ c k. within n c k)
      where
        above : (o : Option ℕ) → parent J b ≡ o → ((c : ℕ) → is_among (actions J) c ≡ true
            → is_among (actions J) (top_within n J c) ≡ true) → is_among (actions J)
            (option_map_or (top_within n J) o b) ≡ true
        above None e ih = g
        above (Some c) e ih = ih c (parent_there v t J l b c e).parent

-- an action is nested one deeper than its parent
pub depth_by_parent : (v : Version) (t : List ℕ → Bool) (J : History) → is_legal v t J ≡ true → (a : ℕ) → depth J a
    ≡ option_map_or (λ b. suc (depth J b)) (parent J a) 1
unfolding depth
depth_by_parent v t J l a = ap (λ (ns : List ℕ). length ns) (lineage_lem v t J l a) ∙ above (parent J a)
  where
    above : (o : Option ℕ) → length (a ∷ option_map_or (lineage J) o [])
        ≡ option_map_or (λ b. suc (length (lineage J b))) o 1
    above None = refl
    above (Some b) = refl

-- the outermost action above one has no parent
pub top_is_outermost : (v : Version) (t : List ℕ → Bool) (J : History) → is_legal v t J ≡ true → (a : ℕ)
    → parent J (top J a) ≡ None
top_is_outermost v t J l a = ap (parent J) (top_climbs J a) ∙ within a a (omega arith)
  where
    within : (n b : ℕ) → b ≤ n → parent J (top_within n J b) ≡ None
    within zero b h = above (parent J b) refl
      where
        above : (o : Option ℕ) → parent J b ≡ o → parent J b ≡ None
        above None e = e
        above (Some c) e = absurd (let x = (parent_there v t J l b c e).less in omega arith)
    within (suc n) b h = above (parent J b) refl (λ c k. within n c k)
      where
        above : (o : Option ℕ) → parent J b ≡ o → ((c : ℕ) → c ≤ n → parent J (top_within n J c) ≡ None)
            → parent J (option_map_or (top_within n J) o b) ≡ None
        above None e ih = e
        above (Some c) e ih = ih c (let x = (parent_there v t J l b c e).less in omega arith)

-- an action with no parent is the outermost one above itself
pub top_of_outermost : (v : Version) (t : List ℕ → Bool) (J : History) → is_legal v t J ≡ true → (a : ℕ) → parent J a
    ≡ None → top J a ≡ a
top_of_outermost v t J l a h = top_lem v t J l a ∙ ap (λ (o : Option ℕ). option_map_or (top J) o a) h
