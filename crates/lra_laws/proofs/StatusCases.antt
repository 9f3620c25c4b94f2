-- What a member's status becomes, case by case.
use Rattle.std.proofs.Common.{◌≡◌, Bool, true, false, Option, Some, None, refl, cond}
use Rattle.std.specs.Prelude.{◌||◌}
use Rattle.std.specs.Option.{option_map_or, option_or}
use Rattle.lra_model.specs.declared.status.MemberStatus.TheVariants as member
use Rattle.lra_model.specs.declared.asks.AskKind.TheVariants as ask
use Rattle.lra_model.specs.declared.asks.Direction.{Direction}
use Rattle.lra_model.specs.declared.asks.Direction.TheVariants as direction
use Rattle.lra_model.specs.declared.asks.Outcome.{Outcome}
use Rattle.lra_model.specs.declared.asks.Outcome.TheVariants as outcome
use Rattle.lra_model.specs.Words.{is_untouched, is_completing, is_compensating, is_decisive, has_gone, same_direction}
use Rattle.lra_laws.proofs.GoodStatus.{status_by}
use Rattle.lra_laws.specs.Rows.{decided_as, way_of, word_of}
use Rattle.lra_laws.proofs.Told.{ask_fits}

-- what was decided in a direction is decisive
abbrev pub is_word : Option Outcome → Bool
is_word o = option_map_or is_decisive o true

pub gone_is_left : (l : Bool) (c : Option Outcome) (gc : Bool) (d : Option Outcome) (gd : Bool)
    → has_gone (status_by l c gc d gd) ≡ l
gone_is_left true c gc d gd = refl
gone_is_left false (Some outcome.Done) gc d gd = refl
gone_is_left false (Some outcome.Failed) gc d gd = refl
gone_is_left false c true d gd = refl
gone_is_left false c false (Some outcome.Done) gd = refl
gone_is_left false c false (Some outcome.Failed) gd = refl
gone_is_left false c false d true = refl
gone_is_left false c false d false = refl

pub asked_to_complete : (l : Bool) (c : Option Outcome) (gc : Bool) (d : Option Outcome) (gd : Bool)
    → ask_fits ask.Complete (status_by l c gc d gd) ≡ true → status_by l c gc d true ≡ member.Completing
asked_to_complete true c gc d gd h = absurd cc
asked_to_complete false (Some outcome.Done) gc d gd h = absurd cc
asked_to_complete false (Some outcome.Failed) gc d gd h = absurd cc
asked_to_complete false c true d gd h = absurd cc
asked_to_complete false c false (Some outcome.Done) gd h = absurd cc
asked_to_complete false c false (Some outcome.Failed) gd h = absurd cc
asked_to_complete false c false d gd h = refl

pub asked_to_compensate : (l : Bool) (c : Option Outcome) (gc : Bool) (d : Option Outcome) (gd : Bool)
    → ask_fits ask.Compensate (status_by l c gc d gd) ≡ true → status_by l c true d gd ≡ member.Compensating
asked_to_compensate true c gc d gd h = absurd cc
asked_to_compensate false (Some outcome.Done) gc d gd h = absurd cc
asked_to_compensate false (Some outcome.Failed) gc d gd h = absurd cc
asked_to_compensate false c gc d gd h = refl

pub skipped : (l : Bool) (c : Option Outcome) (gc : Bool) (d : Option Outcome) (gd : Bool)
    → is_untouched (status_by l c gc d gd) ≡ true → is_word d ≡ true → status_by l c gc
    (option_or d (Some outcome.Done)) gd ≡ member.Completed
skipped true c gc d gd h w = absurd cc
skipped false (Some outcome.Done) gc d gd h w = absurd cc
skipped false (Some outcome.Failed) gc d gd h w = absurd cc
skipped false c true d gd h w = absurd cc
skipped false c false (Some outcome.Done) gd h w = refl
skipped false c false (Some outcome.Failed) gd h w = absurd cc
skipped false c false (Some o) gd h w = absurd cc
skipped false c false None gd h w = refl

-- one that goes on was asked to, and goes the way of its asks
pub goes_on : (l : Bool) (c : Option Outcome) (gc : Bool) (d : Option Outcome) (gd : Bool)
    → (is_completing (status_by l c gc d gd) || is_compensating (status_by l c gc d gd)) ≡ true
    → (cond gc direction.Compensation direction.Completion ≡ way_of (status_by l c gc d gd))
    × ((gc ≡ false) → gd ≡ true)
goes_on true c gc d gd h = absurd cc
goes_on false (Some outcome.Done) gc d gd h = absurd cc
goes_on false (Some outcome.Failed) gc d gd h = absurd cc
goes_on false c true d gd h = (refl, λ e. absurd cc)
goes_on false c false (Some outcome.Done) gd h = absurd cc
goes_on false c false (Some outcome.Failed) gd h = absurd cc
goes_on false c false d true h = (refl, λ e. refl)
goes_on false c false d false h = absurd cc

pub decided_anew : (way : Direction) (o : Outcome) (l : Bool) (c : Option Outcome) (gc : Bool) (d : Option Outcome)
    (gd : Bool) → (same_direction way direction.Completion ≡ true → gd ≡ true)
    → (same_direction way direction.Compensation ≡ true → gc ≡ true)
    → is_word c ≡ true → is_word d ≡ true
    → status_by l (option_or c (word_of way direction.Compensation o)) gc
    (option_or d (word_of way direction.Completion o)) gd ≡ decided_as way o (status_by l c gc d gd)
decided_anew direction.Completion outcome.Done true c gc d gd h k wc wd = refl
decided_anew direction.Completion outcome.Done false (Some outcome.Done) gc d gd h k wc wd = refl
decided_anew direction.Completion outcome.Done false (Some outcome.Failed) gc d gd h k wc wd = refl
decided_anew direction.Completion outcome.Done false c true d gd h k wc wd = refl
decided_anew direction.Completion outcome.Done false c false (Some outcome.Done) gd h k wc wd = refl
decided_anew direction.Completion outcome.Done false c false (Some outcome.Failed) gd h k wc wd = refl
decided_anew direction.Completion outcome.Done false c false (Some x) gd h k wc wd = absurd cc
decided_anew direction.Completion outcome.Done false c false None true h k wc wd = refl
decided_anew direction.Completion outcome.Done false c false None false h k wc wd = absurd
    (let e : false ≡ true = h refl in cc)
decided_anew direction.Completion outcome.Failed true c gc d gd h k wc wd = refl
decided_anew direction.Completion outcome.Failed false (Some outcome.Done) gc d gd h k wc wd = refl
decided_anew direction.Completion outcome.Failed false (Some outcome.Failed) gc d gd h k wc wd = refl
decided_anew direction.Completion outcome.Failed false c true d gd h k wc wd = refl
decided_anew direction.Completion outcome.Failed false c false (Some outcome.Done) gd h k wc wd = refl
decided_anew direction.Completion outcome.Failed false c false (Some outcome.Failed) gd h k wc wd = refl
decided_anew direction.Completion outcome.Failed false c false (Some x) gd h k wc wd = absurd cc
decided_anew direction.Completion outcome.Failed false c false None true h k wc wd = refl
decided_anew direction.Completion outcome.Failed false c false None false h k wc wd = absurd
    (let e : false ≡ true = h refl in cc)
decided_anew direction.Compensation outcome.Done true c gc d gd h k wc wd = refl
decided_anew direction.Compensation outcome.Done false (Some outcome.Done) gc d gd h k wc wd = refl
decided_anew direction.Compensation outcome.Done false (Some outcome.Failed) gc d gd h k wc wd = refl
decided_anew direction.Compensation outcome.Done false (Some x) gc d gd h k wc wd = absurd cc
decided_anew direction.Compensation outcome.Done false None true d gd h k wc wd = refl
decided_anew direction.Compensation outcome.Done false None false d gd h k wc wd = absurd
    (let e : false ≡ true = k refl in cc)
decided_anew direction.Compensation outcome.Failed true c gc d gd h k wc wd = refl
decided_anew direction.Compensation outcome.Failed false (Some outcome.Done) gc d gd h k wc wd = refl
decided_anew direction.Compensation outcome.Failed false (Some outcome.Failed) gc d gd h k wc wd = refl
decided_anew direction.Compensation outcome.Failed false (Some x) gc d gd h k wc wd = absurd cc
decided_anew direction.Compensation outcome.Failed false None true d gd h k wc wd = refl
decided_anew direction.Compensation outcome.Failed false None false d gd h k wc wd = absurd
    (let e : false ≡ true = k refl in cc)
decided_anew way o l None gc None gd h k wc wd = refl
decided_anew way o l None gc (Some y) gd h k wc wd = refl
decided_anew way o l (Some x) gc None gd h k wc wd = refl
decided_anew way o l (Some x) gc (Some y) gd h k wc wd = refl

-- one that was asked nothing yet, or goes on, goes the way of its asks
pub goes_or_rests : (l : Bool) (c : Option Outcome) (gc : Bool) (d : Option Outcome) (gd : Bool)
    → (is_untouched (status_by l c gc d gd) || is_completing (status_by l c gc d gd)
    || is_compensating (status_by l c gc d gd)) ≡ true
    → cond gc direction.Compensation direction.Completion ≡ way_of (status_by l c gc d gd)
goes_or_rests true c gc d gd h = absurd cc
goes_or_rests false (Some outcome.Done) gc d gd h = absurd cc
goes_or_rests false (Some outcome.Failed) gc d gd h = absurd cc
goes_or_rests false c true d gd h = refl
goes_or_rests false c false (Some outcome.Done) gd h = absurd cc
goes_or_rests false c false (Some outcome.Failed) gd h = absurd cc
goes_or_rests false c false d true h = refl
goes_or_rests false c false d false h = refl
