-- Who may write an entry, and what makes it allowed.
use Rattle.std.proofs.Common.{◌≡◌, ℕ, ◌+◌, ◌≤◌, ◌^◌, Bool, true, false, List, [], ◌∷◌, ◌++◌, length, refl, arith}
use Rattle.std.proofs.Common.{eq-eqb}
use Rattle.std.proofs.lemmas.Bool.{le-leb}
use Rattle.std.specs.Prelude.{nat_lt}
use Rattle.lra_model.specs.declared.version.Version.{Version}
use Rattle.lra_model.specs.declared.version.Version.TheVariants as version
use Rattle.lra_model.specs.declared.entry.Deed.{Deed}
use Rattle.lra_model.specs.declared.entry.Deed.TheVariants.{Enrol}
use Rattle.lra_model.specs.declared.entry.Entry.{Entry}
use Rattle.lra_model.specs.History.{History, clerks, is_among, last_moment}
use Rattle.lra_model.specs.Facts.{facts_of}
use Rattle.lra_model.specs.Rules.{has_deed, clerk_fits, is_number, numbers_fit, deed_rules, rules_on, is_legal}
use Rattle.lra_laws.proofs.Push.{last_moment_push}
use Rattle.lra_laws.proofs.Legal.{Allowed, AllKept, none_broken, legal_more}
use Rattle.lra_laws.proofs.Ranges.{ranged, in_range_from, clerk_in_range, writer_there}

-- which clerk may write, and when: one that is there, at a moment that isn't before the last one
pub record MayWrite (v : Version) (t : List ℕ → Bool) (J : History) (by m : ℕ) : Type 0 where
  pub legal : is_legal v t J ≡ true
  pub clerk : is_among (clerks J) by ≡ true
  pub moment : last_moment J ≤ m
  pub fits : is_number m ≡ true

-- what version 1 knows, every version knows
pub known_deed : (v : Version) (d : Deed) → has_deed version.One d ≡ true → has_deed v d ≡ true
known_deed version.One d h = h
known_deed version.Two d h = refl

-- what makes an entry allowed: its writer, its moment, its numbers, and the rules on its deed
allowed_by : (v : Version) (t : List ℕ → Bool) (J : History) (by m : ℕ) (d : Deed) → nat_lt by (2 ^ 32) ≡ true
    → is_number m ≡ true → numbers_fit d ≡ true → has_deed v d ≡ true → clerk_fits (facts_of J) by d ≡ true
    → last_moment J ≤ m
    → AllKept (deed_rules v t (facts_of J) m d) → Allowed v t J (record { by = by; moment = m; deed = d })
unfolding facts_of
allowed_by v t J by m d low fits numbers known clerk later rules =
    let e : Entry = record { by = by; moment = m; deed = d } in
    record {
      ranged = in_range_from e (record { by = low; moment = fits; deed = numbers });
      unbroken = none_broken (rules_on v t (facts_of J) e) (known, (clerk, (le-leb (last_moment J) m later, rules)));
    }

-- whether a deed enrols a clerk
abbrev pub enrols : Deed → Bool
enrols Enrol = true
enrols _ = false

-- a clerk that may write may write a deed whose rules are kept
pub may_write : (v : Version) (t : List ℕ → Bool) (J : History) (by m : ℕ) (d : Deed) → MayWrite v t J by m → enrols d
    ≡ false → numbers_fit d ≡ true → has_deed v d ≡ true → AllKept (deed_rules v t (facts_of J) m d)
    → Allowed v t J (record { by = by; moment = m; deed = d })
unfolding facts_of
may_write v t J by m d w other numbers known rules = allowed_by v t J by m d (clerk_in_range v t J w.legal by w.clerk)
    w.fits numbers known (clerk d other) w.moment rules
  where
    clerk : (d : Deed) → enrols d ≡ false → clerk_fits (facts_of J) by d ≡ true
    clerk Enrol h = absurd cc
    clerk _ h = w.clerk

-- the next clerk may enrol
pub may_enrol : (v : Version) (t : List ℕ → Bool) (J : History) (m : ℕ) → nat_lt (length (clerks J) + 1) (2 ^ 32) ≡ true
    → last_moment J ≤ m → is_number m ≡ true
    → Allowed v t J (record { by = length (clerks J) + 1; moment = m; deed = Enrol })
unfolding facts_of
may_enrol v t J m low later fits = allowed_by v t J (length (clerks J) + 1) m Enrol low fits refl
    (known_deed v Enrol refl) (eq-eqb (length (clerks J) + 1) (length (clerks J) + 1) refl) later tt

-- a clerk that has written may go on at that moment
pub may_go_on : (v : Version) (t : List ℕ → Bool) (J : History) (by m : ℕ) (d : Deed) → is_legal v t J ≡ true
    → Allowed v t J (record { by = by; moment = m; deed = d }) → MayWrite v t
    (J ++ record { by = by; moment = m; deed = d } ∷ []) by m
may_go_on v t J by m d l k =
    let e : Entry = record { by = by; moment = m; deed = d } in
    let now : last_moment (J ++ e ∷ []) ≡ m = last_moment_push J e in
    record {
      legal = legal_more v t J e l k;
      clerk = writer_there v t J by m d k;
      moment = omega arith;
      fits =
          (ranged e k.ranged).moment;
    }
