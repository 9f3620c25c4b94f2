-- What is known, the disk and what was used fit together, whatever is done next.
use Rattle.std.proofs.Common.{◌≡◌, ℕ, ◌+◌, ◌<◌, ◌≤◌, Bool, true, false, if◌then◌else◌, List, [], ◌∷◌, ◌++◌, Option}
use Rattle.std.proofs.Common.{None, Some, refl, sym, ap, ◌∙◌, subst, arith}
use Rattle.std.specs.Prelude.{IfSome, IfNone, option_map, option_to_list}
use Rattle.lra_rotation.specs.declared.settings.RotationSettings.{RotationSettings}
use Rattle.lra_rotation.specs.declared.journal.RotationJournal.{RotationJournal}
use Rattle.lra_rotation.specs.declared.journal.Observation.{Observation}
use Rattle.lra_rotation.specs.declared.action.Stage.{Stage}
use Rattle.lra_rotation.specs.declared.action.Stage.TheVariants as stage
use Rattle.lra_rotation.specs.declared.action.RotationAction.{RotationAction}
use Rattle.lra_rotation.specs.declared.action.RotationAction.TheVariants as action
use Rattle.lra_rotation.specs.declared.action.Change.{Change}
use Rattle.lra_rotation.specs.declared.action.Change.TheVariants as change
use Rattle.lra_rotation.specs.States.{State, next_version}
use Rattle.lra_rotation.specs.Deciding.{may_archive}
use Rattle.lra_rotation.specs.Disks.{Disk, carried, opened, restored, without, noted_on, greatest, found, found_all}
use Rattle.lra_rotation.specs.Disks.{last_of, last_from, front_of, front_from}
use Rattle.lra_rotation.specs.Runs.{done, failed, used_with, changed_at, change_all, apart_from, new_journal}
use Rattle.lra_rotation.specs.Laws.{Ascend, RowsBelow, has, Suits, IsFolder}
use Rattle.lra_rotation.proofs.Orders.{AllBelow, below_mono, below_append, below_without, below_without_same}
use Rattle.lra_rotation.proofs.Orders.{Ascend_without}
use Rattle.lra_rotation.proofs.Orders.{Ascend_push, greatest_below, front_below, last_below, rows_mono, rows_append}
use Rattle.lra_rotation.proofs.Orders.{same_instance, below_change, within_change, rows_change, rows_apart, rows_found}
use Rattle.lra_rotation.proofs.Orders.{has_below, has_some, IsRetired, Retired, retired_append, retired_changed}
use Rattle.lra_rotation.proofs.Orders.{retired_change, retired_apart, found_retired, retired_found, RowsAscend}
use Rattle.lra_rotation.proofs.Orders.{rows_ascend_push, rows_ascend_change, rows_ascend_apart, rows_ascend_found}
use Rattle.lra_rotation.proofs.Orders.{ascend_front}

-- what was used was noted, and stands on disk
pub record IsNoted (noted newest : ℕ) (used : List ℕ) : Type 0 where
  pub ascend : Ascend used
  pub below : AllBelow (noted + 1) used
  pub note : noted ≤ newest

-- what stands on disk was noted
pub record IsOnDisk (noted first : ℕ) (journals ended : List ℕ) : Type 0 where
  pub ordered : Ascend journals
  pub below : AllBelow (noted + 1) journals
  pub away : AllBelow (noted + 1) ended
  pub least : first ≤ noted + 1

-- the newest is greater than the others, and was noted; what was retired is closed
pub record IsKnown (noted first : ℕ) (older : List RotationJournal) (newest : Option RotationJournal) : Type 0 where
  pub under : IfSome newest (λ n. RowsBelow n.instance older)
  pub alone : IfNone newest (older ≡ [])
  pub within : IfSome newest (λ n. n.instance ≤ noted)
  pub retired : Retired first older
  pub taker : IfSome newest (IsRetired first)
  pub ascend : RowsAscend older

-- the next one was noted last, is greater than the newest, and isn't retired; until it is prepared it isn't used
abbrev pub IsNext : ℕ → ℕ → Option RotationJournal → ℕ → Type 0
IsNext noted first newest i = (i ≡ noted) × (first ≤ i) × IfSome newest (λ n. n.instance < i)

abbrev pub Fits : ℕ → ℕ → Option RotationJournal → List ℕ → Stage → Type 0
Fits noted first newest used stage.Idle = Unit {0}
Fits noted first newest used (stage.Noted i) = IsNext noted first newest i × AllBelow i used
Fits noted first newest used (stage.Prepared i) = IsNext noted first newest i
Fits noted first newest used (stage.Named i) = IsNext noted first newest i

pub record IsSound (s : State) (d : Disk) (used : List ℕ) : Type 0 where
  pub noted : IsNoted s.noted d.newest used
  pub disk : IsOnDisk s.noted d.first d.journals d.ended
  pub known : IsKnown s.noted d.first s.older s.newest
  pub stage : Fits s.noted d.first s.newest used s.stage

-- ---- an instance is noted

newest_up : (m n : ℕ) (newest : Option RotationJournal) → m ≤ n → IfSome newest (λ j. j.instance ≤ m)
    → IfSome newest (λ j. j.instance ≤ n)
newest_up m n None le h = tt
newest_up m n (Some j) le h = omega arith

newest_under : (m i : ℕ) (newest : Option RotationJournal) → m < i → IfSome newest (λ j. j.instance ≤ m)
    → IfSome newest (λ j. j.instance < i)
newest_under m i None lt h = tt
newest_under m i (Some j) lt h = omega arith

on_disk_up : (m n first : ℕ) (journals ended : List ℕ) → m ≤ n → IsOnDisk m first journals ended
    → IsOnDisk n first journals ended
on_disk_up m n first journals ended le h = record {
  ordered = h.ordered;
  below = below_mono (m + 1) (n + 1) journals (omega arith) h.below;
  away = below_mono (m + 1) (n + 1) ended (omega arith) h.away;
  least = omega arith;
}

known_up : (m n first : ℕ) (older : List RotationJournal) (newest : Option RotationJournal) → m ≤ n
    → IsKnown m first older newest → IsKnown n first older newest
known_up m n first older newest le h = record {
  under = h.under;
  alone = h.alone;
  within = newest_up m n newest le
      h.within;
  retired = h.retired;
  taker = h.taker;
  ascend = h.ascend;
}

noted_up : (m i newest : ℕ) (used : List ℕ) → m ≤ i → IsNoted m newest used → IsNoted i i used
noted_up m i newest used le h = record {
  ascend = h.ascend;
  below = below_mono (m + 1) (i + 1) used (omega arith)
      h.below;
  note = omega arith;
}

-- ---- it is used

used_up : (noted newest i : ℕ) (used : List ℕ) → i ≡ noted → AllBelow i used → IsNoted noted newest used
    → IsNoted noted newest (used ++ i ∷ [])
used_up noted newest i used e b h = record {
  ascend = Ascend_push i used h.ascend b;
  below = below_append (noted + 1)
      used (i ∷ []) h.below (omega arith, tt);
  note = h.note;
}

-- ---- it has its name

named : (noted first i : ℕ) (journals ended : List ℕ) → i ≡ noted → IsOnDisk noted first journals ended
    → IsOnDisk noted first (without i journals ++ i ∷ []) ended
named noted first i journals ended e h = record {
  ordered = Ascend_push i (without i journals) (Ascend_without i journals h.ordered)
      (below_without_same i journals (subst (λ (n : ℕ). AllBelow (n + 1) journals) (sym e) h.below));
  below = below_append (noted + 1) (without i journals) (i ∷ []) (below_without (noted + 1) i journals h.below)
      (omega arith, tt);
  away = h.away;
  least = h.least;
}

-- ---- it accepts new work

pub switched_rows : (noted first i : ℕ) (older : List RotationJournal) (newest : Option RotationJournal)
    → IsKnown noted first older newest → IfSome newest (λ n. n.instance < i)
    → RowsBelow i (older ++ option_to_list newest)
switched_rows noted first i older None h lt = subst (λ (js : List RotationJournal). RowsBelow i (js ++ []))
    (sym h.alone) tt
switched_rows noted first i older (Some n) h lt =
    rows_append i older (n ∷ []) (rows_mono n.instance i older (omega arith) h.under) (lt, tt)

switched_retired : (noted first : ℕ) (older : List RotationJournal) (newest : Option RotationJournal)
    → IsKnown noted first older newest → Retired first (older ++ option_to_list newest)
switched_retired noted first older None h = retired_append first older [] h.retired tt
switched_retired noted first older (Some n) h = retired_append first older (n ∷ []) h.retired (h.taker, tt)

switched_ascend : (noted first : ℕ) (older : List RotationJournal) (newest : Option RotationJournal)
    → IsKnown noted first older newest → RowsAscend (older ++ option_to_list newest)
switched_ascend noted first older None h = subst (λ (js : List RotationJournal). RowsAscend (js ++ [])) (sym h.alone) tt
switched_ascend noted first older (Some n) h = rows_ascend_push n older h.ascend h.under

switched : (noted first i : ℕ) (older : List RotationJournal) (newest : Option RotationJournal)
    → IsNext noted first newest i → IsKnown noted first older newest
    → IsKnown noted first (older ++ option_to_list newest) (Some (new_journal i))
switched noted first i older newest next h = record {
  under = switched_rows noted first i older newest h next.2;
  alone = tt;
  within = (let e = next.0 in omega arith);
  retired = switched_retired noted first older newest h;
  taker = λ lt. absurd (let f = next.1 in omega arith);
  ascend = switched_ascend noted first older newest h;
}

-- ---- a journal is closed, leaves, comes back, stays, or is archived

changed_newest : (noted first i : ℕ) (older : List RotationJournal) (newest : Option RotationJournal)
    → IsKnown noted first older newest → IsKnown noted first older (option_map (changed_at change.Close i) newest)
changed_newest noted first i older None h = h
changed_newest noted first i older (Some n) h = record {
  under = subst (λ (m : ℕ). RowsBelow m older) (sym (same_instance change.Close i n)) h.under;
  alone = tt;
  within = within_change noted change.Close i n h.within;
  retired = h.retired;
  taker = retired_changed first change.Close i n h.taker;
  ascend = h.ascend;
}

changed_known : (noted first : ℕ) (c : Change) (i : ℕ) (older : List RotationJournal) (newest : Option RotationJournal)
    → IsKnown noted first older newest → IsKnown noted first (change_all c i older) newest
changed_known noted first c i older None h = record {
  under = tt;
  alone = ap (change_all c i) h.alone;
  within = tt;
  retired = retired_change first c i older h.retired;
  taker = tt;
  ascend = rows_ascend_change c i older h.ascend;
}
changed_known noted first c i older (Some n) h = record {
  under = rows_change n.instance c i older h.under;
  alone = tt;
  within = h.within;
  retired = retired_change first c i older h.retired;
  taker = h.taker;
  ascend =
      rows_ascend_change c i older h.ascend;
}

next_closed : (noted first k i : ℕ) (newest : Option RotationJournal) → IsNext noted first newest k
    → IsNext noted first (option_map (changed_at change.Close i) newest) k
next_closed noted first k i None h = h
next_closed noted first k i (Some n) h = (h.0, h.1, below_change k change.Close i n h.2)

fits_closed : (noted first i : ℕ) (newest : Option RotationJournal) (used : List ℕ) (st : Stage)
    → Fits noted first newest used st → Fits noted first (option_map (changed_at change.Close i) newest) used st
fits_closed noted first i newest used stage.Idle h = tt
fits_closed noted first i newest used (stage.Noted k) h = (next_closed noted first k i newest h.0, h.1)
fits_closed noted first i newest used (stage.Prepared k) h = next_closed noted first k i newest h
fits_closed noted first i newest used (stage.Named k) h = next_closed noted first k i newest h

apart : (noted first i : ℕ) (older : List RotationJournal) (newest : Option RotationJournal)
    → IsKnown noted first older newest → IsKnown noted first (apart_from i older) newest
apart noted first i older None h = record {
  under = tt;
  alone = ap (apart_from i) h.alone;
  within = tt;
  retired = retired_apart first i older h.retired;
  taker = tt;
  ascend = rows_ascend_apart i older h.ascend;
}
apart noted first i older (Some n) h = record {
  under = rows_apart n.instance i older h.under;
  alone = tt;
  within = h.within;
  retired = retired_apart first i older h.retired;
  taker = h.taker;
  ascend =
      rows_ascend_apart i older h.ascend;
}

-- one of the older ones was noted, and is less than the newest
pub older_below : (noted first i : ℕ) (older : List RotationJournal) (newest : Option RotationJournal)
    → IsKnown noted first older newest → has older i ≡ true → (i < noted + 1) × IfSome newest (λ n. i < n.instance)
older_below noted first i older None h e =
    absurd (let gone : false ≡ true = sym (ap (λ (js : List RotationJournal). has js i) h.alone) ∙ e in cc)
older_below noted first i older (Some n) h e = let lt = has_below n.instance i older h.under e in let most = h.within in
    (omega arith, lt)

archived : (noted first i : ℕ) (journals ended : List ℕ) → i < noted + 1 → IsOnDisk noted first journals ended
    → IsOnDisk noted first (without i journals) (without i ended ++ i ∷ [])
archived noted first i journals ended lt h = record {
  ordered = Ascend_without i journals h.ordered;
  below = below_without (noted + 1) i journals h.below;
  away = below_append (noted + 1) (without i ended) (i ∷ []) (below_without (noted + 1) i ended h.away) (lt, tt);
  least = h.least;
}

-- ---- what is done next keeps all that

pub at_stage : (s : State) (d : Disk) (used : List ℕ) (st : Stage) → IsSound s d used → s.stage ≡ st
    → Fits s.noted d.first s.newest used st
at_stage s d used st h e = subst (Fits s.noted d.first s.newest used) e h.stage

pub sound_done : (s : State) (d : Disk) (used : List ℕ) (observations : List Observation) (a : RotationAction)
    → Suits s observations a → IsSound s d used → IsSound (done s a) (carried a d) (used_with a used)
sound_done s d used observations (action.Remove i) suits h = record {
  noted = h.noted;
  disk = h.disk;
  known = h.known;
  stage = h.stage;
}
sound_done s d used observations (action.Note i) suits h =
    let lt : s.noted < i = suits.0 in
    let le : s.noted ≤ i = omega arith in
    record {
      noted = noted_up s.noted i d.newest used le h.noted;
      disk = on_disk_up s.noted i d.first d.journals d.ended le h.disk;
      known = known_up s.noted i d.first s.older s.newest le h.known;
      stage = (
        (refl, first_of lt h.disk.least, newest_under s.noted i s.newest lt h.known.within),
        below_mono (s.noted + 1) i used (omega arith) h.noted.below,
      );
    }
  where
    first_of : s.noted < i → d.first ≤ s.noted + 1 → d.first ≤ i
    first_of lt le = omega arith
sound_done s d used observations (action.Prepare i) suits h =
    let at : Fits s.noted d.first s.newest used (stage.Noted i) = at_stage s d used (stage.Noted i) h suits.0 in
    record { noted = used_up s.noted d.newest i used at.0.0 at.1 h.noted; disk = h.disk; known = h.known; stage = at.0 }
sound_done s d used observations (action.Name i) suits h =
    let at : Fits s.noted d.first s.newest used (stage.Prepared i) = at_stage s d used (stage.Prepared i) h suits.0 in
    record {
      noted = h.noted;
      disk = named s.noted d.first i d.journals d.ended at.0 h.disk;
      known = h.known;
      stage = at;
    }
sound_done s d used observations (action.Switch i) suits h =
    let at : Fits s.noted d.first s.newest used (stage.Named i) = at_stage s d used (stage.Named i) h suits.0 in
    record {
      noted = h.noted;
      disk = h.disk;
      known = switched s.noted d.first i s.older s.newest at h.known;
      stage = tt;
    }
sound_done s d used observations (action.Close i) suits h =
    record {
      noted = h.noted;
      disk = h.disk;
      known = changed_known s.noted d.first change.Close i s.older
          (option_map (changed_at change.Close i) s.newest) (changed_newest s.noted d.first i s.older s.newest h.known);
      stage = fits_closed s.noted d.first i s.newest used s.stage h.stage;
    }
sound_done s d used observations (action.Withdraw i) suits h =
    record {
      noted = h.noted;
      disk = h.disk;
      known = changed_known s.noted d.first
          (change.Leave (next_version s.version)) i s.older s.newest h.known;
      stage = h.stage;
    }
sound_done s d used observations (action.Archive i) suits h = record {
  noted = h.noted;
  disk = archived s.noted d.first i d.journals d.ended (older_below s.noted d.first i s.older s.newest h.known
      (has_some (may_archive s.workers observations s.settings.remember) s.older i suits.0)).0 h.disk;
  known = apart s.noted d.first i s.older s.newest h.known;
  stage = h.stage;
}
sound_done s d used observations action.End suits h = record {
  noted = h.noted;
  disk = h.disk;
  known = h.known;
  stage = h.stage;
}
sound_done s d used observations action.Fail suits h = record {
  noted = h.noted;
  disk = h.disk;
  known = h.known;
  stage = h.stage;
}

-- what fails keeps it too, whether the disk has taken it or not

pub sound_failed : (s : State) (d : Disk) (used : List ℕ) (observations : List Observation) (took : Bool)
    (a : RotationAction) → Suits s observations a → IsSound s d used
    → IsSound (failed s a) (if took then carried a d else d) (used_with a used)
sound_failed s d used observations true (action.Remove i) suits h =
    record { noted = h.noted; disk = h.disk; known = h.known; stage = h.stage }
sound_failed s d used observations false (action.Remove i) suits h =
    record { noted = h.noted; disk = h.disk; known = h.known; stage = h.stage }
sound_failed s d used observations true (action.Note i) suits h = let lt : s.noted < i = suits.0 in
    record {
      noted = record {
        ascend = h.noted.ascend;
        below = h.noted.below;
        note = (let le = h.noted.note in
            omega arith);
      };
      disk = h.disk;
      known = h.known;
      stage = h.stage;
    }
sound_failed s d used observations false (action.Note i) suits h =
    record { noted = h.noted; disk = h.disk; known = h.known; stage = h.stage }
sound_failed s d used observations true (action.Prepare i) suits h =
    let at : Fits s.noted d.first s.newest used (stage.Noted i) = at_stage s d used (stage.Noted i) h suits.0 in
    record { noted = used_up s.noted d.newest i used at.0.0 at.1 h.noted; disk = h.disk; known = h.known; stage = tt }
sound_failed s d used observations false (action.Prepare i) suits h =
    let at : Fits s.noted d.first s.newest used (stage.Noted i) = at_stage s d used (stage.Noted i) h suits.0 in
    record { noted = used_up s.noted d.newest i used at.0.0 at.1 h.noted; disk = h.disk; known = h.known; stage = tt }
sound_failed s d used observations true (action.Name i) suits h =
    let at : Fits s.noted d.first s.newest used (stage.Prepared i) = at_stage s d used (stage.Prepared i) h suits.0 in
    record {
      noted = h.noted;
      disk = named s.noted d.first i d.journals d.ended at.0 h.disk;
      known = h.known;
      stage = h.stage;
    }
sound_failed s d used observations false (action.Name i) suits h =
    record { noted = h.noted; disk = h.disk; known = h.known; stage = h.stage }
sound_failed s d used observations true (action.Switch i) suits h =
    record { noted = h.noted; disk = h.disk; known = h.known; stage = h.stage }
sound_failed s d used observations false (action.Switch i) suits h =
    record { noted = h.noted; disk = h.disk; known = h.known; stage = h.stage }
sound_failed s d used observations true (action.Close i) suits h =
    record { noted = h.noted; disk = h.disk; known = h.known; stage = h.stage }
sound_failed s d used observations false (action.Close i) suits h =
    record { noted = h.noted; disk = h.disk; known = h.known; stage = h.stage }
sound_failed s d used observations true (action.Withdraw i) suits h =
    record {
      noted = h.noted;
      disk = h.disk;
      known = changed_known s.noted d.first change.Stay i s.older s.newest
          h.known;
      stage = h.stage;
    }
sound_failed s d used observations false (action.Withdraw i) suits h =
    record {
      noted = h.noted;
      disk = h.disk;
      known = changed_known s.noted d.first change.Stay i s.older s.newest
          h.known;
      stage = h.stage;
    }
sound_failed s d used observations true (action.Archive i) suits h = record {
  noted = h.noted;
  disk = archived s.noted d.first i d.journals d.ended (older_below s.noted d.first i s.older s.newest h.known
      (has_some (may_archive s.workers observations s.settings.remember) s.older i suits.0)).0 h.disk;
  known = changed_known s.noted d.first change.Stay i s.older s.newest h.known;
  stage = h.stage;
}
sound_failed s d used observations false (action.Archive i) suits h =
    record {
      noted = h.noted;
      disk = h.disk;
      known = changed_known s.noted d.first change.Stay i s.older s.newest
          h.known;
      stage = h.stage;
    }
sound_failed s d used observations true action.End suits h = record {
  noted = h.noted;
  disk = h.disk;
  known = h.known;
  stage = h.stage;
}
sound_failed s d used observations false action.End suits h = record {
  noted = h.noted;
  disk = h.disk;
  known = h.known;
  stage = h.stage;
}
sound_failed s d used observations true action.Fail suits h = record {
  noted = h.noted;
  disk = h.disk;
  known = h.known;
  stage = h.stage;
}
sound_failed s d used observations false action.Fail suits h = record {
  noted = h.noted;
  disk = h.disk;
  known = h.known;
  stage = h.stage;
}

-- ---- a start

found_older : (first : ℕ) (observations : List Observation) (is : List ℕ) → Ascend is
    → IfSome (option_map (found first observations) (last_of is))
    (λ n. RowsBelow n.instance (found_all first observations (front_of is)))
found_older first observations [] h = tt
found_older first observations (i ∷ is) h = rows_found (last_from i is) first observations (front_from i is)
    (front_below i is h.0 h.1)

found_alone : (first : ℕ) (observations : List Observation) (is : List ℕ)
    → IfNone (option_map (found first observations) (last_of is)) (found_all first observations (front_of is) ≡ [])
found_alone first observations [] = refl
found_alone first observations (i ∷ is) = tt

found_within : (noted first : ℕ) (observations : List Observation) (is : List ℕ) → AllBelow (noted + 1) is
    → IfSome (option_map (found first observations) (last_of is)) (λ n. n.instance ≤ noted)
found_within noted first observations [] h = tt
found_within noted first observations (i ∷ is) h = let lt = last_below (noted + 1) i is h.0 h.1 in omega arith

found_taker : (first : ℕ) (observations : List Observation) (is : List ℕ)
    → IfSome (option_map (found first observations) (last_of is)) (IsRetired first)
found_taker first observations [] = tt
found_taker first observations (i ∷ is) = found_retired first observations (last_from i is)

opens : (settings : RotationSettings) (d : Disk) (observations : List Observation) (used : List ℕ)
    → IsNoted (noted_on d) d.newest used → IsOnDisk (noted_on d) d.first d.journals d.ended
    → IsSound (opened settings d observations) d used
opens settings d observations used n h = record {
  noted = n;
  disk = h;
  known = record {
    under = found_older d.first observations d.journals h.ordered;
    alone = found_alone d.first observations d.journals;
    within = found_within (noted_on d) d.first observations d.journals h.below;
    retired = retired_found d.first observations (front_of d.journals);
    taker = found_taker d.first observations d.journals;
    ascend = rows_ascend_found d.first observations (front_of d.journals) (ascend_front d.journals h.ordered);
  };
  stage = tt;
}

-- what a disk tells of is noted there
all_within : (n : ℕ) (xs : List ℕ) → greatest xs ≤ n → AllBelow (n + 1) xs
all_within n [] h = tt
all_within n (x ∷ xs) h = (omega arith, all_within n xs (omega arith))

pub sound_first : (settings : RotationSettings) (d : Disk) → IsFolder d → IsSound (opened settings d []) d []
sound_first settings d h = opens settings d [] [] (record { ascend = tt; below = tt; note = h.noted }) (record {
  ordered = h.ordered;
  below = all_within (noted_on d) d.journals (omega arith);
  away = all_within (noted_on d) d.ended (omega arith);
  least = h.first;
})

-- what a disk tells of is what was noted there last
noted_within : (noted : ℕ) (d : Disk) → noted ≤ d.newest → IsOnDisk noted d.first d.journals d.ended
    → noted_on d ≤ d.newest
noted_within noted d le h = let a = greatest_below noted d.journals h.below in let b =
    greatest_below noted d.ended h.away in omega arith

newest_within : (d : Disk) → d.newest ≤ noted_on d
newest_within d = omega arith

is_noted : (noted : ℕ) (d : Disk) (used : List ℕ) → IsNoted noted d.newest used
    → IsOnDisk noted d.first d.journals d.ended → IsNoted (noted_on d) d.newest used
is_noted noted d used n h = record {
  ascend = n.ascend;
  below = below_mono (noted + 1) (noted_on d + 1) used
      (let a = n.note in let b = newest_within d in omega arith) n.below;
  note = noted_within noted d n.note h;
}

is_on_disk : (noted : ℕ) (d : Disk) (used : List ℕ) → IsNoted noted d.newest used
    → IsOnDisk noted d.first d.journals d.ended → IsOnDisk (noted_on d) d.first d.journals d.ended
is_on_disk noted d used n h = on_disk_up noted (noted_on d) d.first d.journals d.ended (let a = n.note in
    let b = newest_within d in omega arith) h

pub sound_opened : (settings : RotationSettings) (s : State) (d : Disk) (observations : List Observation)
    (used : List ℕ) → IsSound s d used → IsSound (opened settings d observations) d used
sound_opened settings s d observations used h = opens settings d observations used
    (is_noted s.noted d used h.noted h.disk) (is_on_disk s.noted d used h.noted h.disk)

pub sound_restored : (settings : RotationSettings) (s : State) (d : Disk) (observations : List Observation)
    (used : List ℕ) → IsSound s d used → IsSound (opened settings (restored d) observations) (restored d) used
sound_restored settings s d observations used h =
    let on : IsOnDisk (noted_on d) d.first d.journals d.ended = is_on_disk s.noted d used h.noted h.disk in
    opens settings (restored d) observations used (is_noted s.noted d used h.noted h.disk)
    (record { ordered = on.ordered; below = on.below; away = on.away; least = omega arith })
