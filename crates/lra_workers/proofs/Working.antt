-- Calls that a worker gives, one after another.
use Rattle.std.proofs.Common.{◌≡◌, ◌≢◌, ℕ, suc, false, refl, sym, ◌∙◌, ap, subst, inl, inr, Option, Some, None}
use Rattle.std.specs.Prelude.{Result, Ok, Err, IfOk, IfErr, IfSome, MatchResult}
use Rattle.lra_model.specs.declared.asks.AskKind.{AskKind}
use Rattle.lra_model.specs.declared.asks.Outcome.{Outcome}
use Rattle.lra_model.specs.History.{History}
use Rattle.lra_ticket.specs.declared.view.View.{View}
use Rattle.lra_commands.specs.declared.command.Command.TheVariants as command
use Rattle.lra_commands.specs.declared.command.Told.{Told}
use Rattle.lra_commands.specs.Errands.{Asking}
use Rattle.lra_commands.specs.Calls.{Call, Command}
use Rattle.lra_commands.specs.Counters.{Setting}
use Rattle.lra_commands.specs.Given.{IsOfAsk}
use Rattle.lra_commands.specs.Calls.{IsCall}
use Rattle.lra_core.specs.Laws.{ErrandsAreOfAsks}
use Rattle.lra_core.specs.Performs.{IsRecording, RecordsAs}
use Rattle.lra_commands.specs.declared.refusal.Refusal.TheVariants.{NotAsked, Stopped}
use Rattle.lra_office.specs.declared.fault.OfficeRefusal.{OfficeRefusal}
use Rattle.lra_office.specs.declared.fault.OfficeRefusal.TheVariants as office
use Rattle.lra_office.specs.Orders.{IsGrown, IsNotGiven, IsErrand}
use Rattle.lra_workers.specs.declared.worker.WorkerEnd.{WorkerEnd}
use Rattle.lra_workers.specs.declared.worker.WorkerEnd.TheVariants as worker
use Rattle.lra_workers.proofs.Refusing.{unasked, ends, never_late}
use Rattle.lra_workers.specs.Work.{Post, post, IsWorkersCommand, Fails, Does, WorksIn, Works, WorksUpTo, TellsWhy}
use Rattle.lra_workers.specs.Work.{EndsWork}

-- an errand that was given is of an ask in what is seen then
pub given_of_ask : {O : Type 0} → ErrandsAreOfAsks → (g : Setting) (v w : View O) (c : Call) (t : Told)
    (o : Option Asking) (e : Asking) → IsCall c → IsGrown g v c t o w → o ≡ Some e → IsOfAsk w.seen e
given_of_ask law g v w c t o e is h some =
    let k = h.met.kept in
    subst (λ (J : History). IsOfAsk J e) (sym (ap (λ (x : View _). x.seen) h.after ∙ h.done.grown))
    (law g h.history c t e k.limits k.lawful is h.done.answered (sym h.done.errand ∙ some))

-- the same, for the errand that a call returns
pub asked_of_ask : {O : Type 0} → ErrandsAreOfAsks → (g : Setting) (v w : View O) (c : Call)
    (r : Result (Option Asking) OfficeRefusal) → IsCall c → IsErrand g v c r w
    → IfOk r (λ o. IfSome o (λ e. IsOfAsk w.seen e))
asked_of_ask law g v w c (Ok None) is h = tt
asked_of_ask law g v w c (Ok (Some e)) is h = given_of_ask law g v w c h.0 (Some e) e is h.1 refl
asked_of_ask law g v w c (Err r) is h = tt

-- a courier's possible answer to an errand is recorded
recording_is_own : (gives : ℕ → AskKind → Outcome → Type 0) (J : History) (e : Asking) (o : Outcome) (c : Command)
    → IsRecording e o c → IsOfAsk J e → gives e.ask e.kind o → IsWorkersCommand gives J c
recording_is_own gives J e o (command.Record errand outcome) h is has = (
  subst (IsOfAsk J) (sym h.0) is,
  subst (λ (x : Outcome). gives errand.now.ask errand.now.kind x) (sym h.1)
      (subst (λ (x : Asking). gives x.ask x.kind o) (sym h.0) has),
)
recording_is_own gives J e o command.Enrol h is has = absurd h
recording_is_own gives J e o (command.Start parent limit) h is has = absurd h
recording_is_own gives J e o (command.Join action uris) h is has = absurd h
recording_is_own gives J e o (command.Leave action member) h is has = absurd h
recording_is_own gives J e o (command.Close action) h is has = absurd h
recording_is_own gives J e o (command.Cancel action) h is has = absurd h
recording_is_own gives J e o command.Tick h is has = absurd h
recording_is_own gives J e o command.NextAsk h is has = absurd h
recording_is_own gives J e o (command.Report member ending) h is has = absurd h
recording_is_own gives J e o command.Restart h is has = absurd h
recording_is_own gives J e o (command.Renew action limit) h is has = absurd h
recording_is_own gives J e o (command.Status action) h is has = absurd h
recording_is_own gives J e o (command.MemberStatus member) h is has = absurd h

module _ {O K : Type 0} (setting : O → Setting) (gives : ℕ → AskKind → Outcome → Type 0) (tells : K → ℕ → K → Type 0)
  where
    pub works_none : (s : Post O K) → Works setting gives tells s s
    unfolding WorksIn
    works_none s = (0, refl)

    -- one more call, which is done
    pub works_on : (s u t : Post O K) → Works setting gives tells s u → Does setting gives tells u t
        → Works setting gives tells s t
    unfolding WorksIn
    works_on s u t h d = (suc h.0, (u, h.1, inl d))

    -- one more call, to record what came of an ask that isn't outstanding any more
    pub works_late : (s u t : Post O K) → Works setting gives tells s u → Fails setting gives tells u
        (office.Refused NotAsked) t → Works setting gives tells s t
    unfolding WorksIn
    works_late s u t h f = (suc h.0, (u, h.1, inr f))

    -- a call that was done
    pub does : (v w : View O) (k l : K) (c : Call) (t : Told) (e : Option Asking) → c.by ≡ v.number
        → IsWorkersCommand gives v.seen c.command → tells k c.moment l → IsGrown (setting v.origin) v c t e w
        → Does setting gives tells (post v k) (post w l)
    does v w k l c t e by own clocked given = record {
      call = c;
      own = record { by = by; command = own };
      clocked =
          clocked;
      told = t;
      errand = e;
      given = given;
    }

    -- a call that was refused
    pub fails : (v w : View O) (k l : K) (c : Call) (r : OfficeRefusal) → c.by ≡ v.number
        → IsWorkersCommand gives v.seen c.command → tells k c.moment l → IsNotGiven (setting v.origin) v c r w
        → Fails setting gives tells (post v k) r (post w l)
    fails v w k l c r by own clocked given = record {
      call = c;
      own = record { by = by; command = own };
      clocked =
          clocked;
      given = given;
    }

    -- an errand was asked for
    pub asked : (s : Post O K) (v w : View O) (k l : K) (c : Call) (r : Result (Option Asking) OfficeRefusal)
        → IsErrand (setting v.origin) v c r w → Works setting gives tells s (post v k) → c.by ≡ v.number → v.number ≢ 0
        → IsWorkersCommand gives v.seen c.command
        → ((J : History) → unasked J c.command ≡ false) → tells k c.moment l
        → MatchResult r (λ _. Works setting gives tells s (post w l))
        (λ x. WorksUpTo setting gives tells s x (post w l))
    asked s v w k l c (Ok e) h before by known own never clocked = works_on s (post v k) (post w l) before
        (does v w k l c h.0 e by own clocked h.1)
    asked s v w k l c (Err x) h before by known own never clocked = (
      post v k,
      before,
      fails v w k l c x by own clocked h,
      never_late gives (setting v.origin) v w c x h by known own never,
    )

    -- what came of an errand was recorded
    pub records : (v w : View O) (k l : K) (c : Call) (number at : ℕ) (a : Asking) (o : Outcome) (t : Told)
        (e : Option Asking) → RecordsAs c number at a o → v.number ≡ number → IsOfAsk v.seen a → gives a.ask a.kind o
        → tells k at l
        → IsGrown (setting v.origin) v c t e w → Does setting gives tells (post v k) (post w l)
    records v w k l c number at a o t e r is of has clocked given =
        does v w k l c t e (r.by ∙ sym is) (recording_is_own gives v.seen a o c.command r.command of has)
        (subst (λ (m : ℕ). tells k m l) (sym r.moment) clocked) given

    -- it was refused
    pub records_not : (v w : View O) (k l : K) (c : Call) (number at : ℕ) (a : Asking) (o : Outcome) (r : OfficeRefusal)
        → RecordsAs c number at a o → v.number ≡ number → IsOfAsk v.seen a → gives a.ask a.kind o → tells k at l
        → IsNotGiven (setting v.origin) v c r w → Fails setting gives tells (post v k) r (post w l)
    records_not v w k l c number at a o r h is of has clocked given =
        fails v w k l c r (h.by ∙ sym is) (recording_is_own gives v.seen a o c.command h.command of has)
        (subst (λ (m : ℕ). tells k m l) (sym h.moment) clocked) given

    -- a record that is refused is passed over, or ends the work
    pub passed : (s u t : Post O K) (x : OfficeRefusal) (r : Result (Unit {0}) WorkerEnd)
        → Works setting gives tells s u → u.view.number ≢ 0 → Fails setting gives tells u x t
        → MatchResult r (λ _. x ≡ office.Refused NotAsked) (λ end. (x ≢ office.Refused NotAsked)
        × (end ≡ worker.Refused x)) → MatchResult r (λ _. Works setting gives tells s t)
        (λ end. EndsWork setting gives tells s end t)
    passed s u t x (Ok _) before known f h = works_late s u t before (subst
        (λ (y : OfficeRefusal). Fails setting gives tells u y t) h f)
    passed s u t x (Err e) before known f h = subst (λ (end : WorkerEnd). EndsWork setting gives tells s end t)
        (sym h.1) (
          u,
          before,
          f,
          ends gives (setting u.view.origin) u.view t.view f.call x f.given f.own.by known
              f.own.command h.0,
        )

-- the end reports what a refusal that ends a worker reports
pub refusal_tells : (is_shut : Type 0) (holds : ℕ → Type 0) (has_stopped : Type 0) (J : History) (x : OfficeRefusal)
    (r : Result (Unit {0}) WorkerEnd)
    → MatchResult r (λ _. x ≡ office.Refused NotAsked) (λ end. (x ≢ office.Refused NotAsked) × (end ≡ worker.Refused x))
    → (x ≡ office.Refused Stopped → has_stopped) → IfErr r (TellsWhy is_shut holds has_stopped J)
refusal_tells is_shut holds has_stopped J x (Ok _) h told = tt
refusal_tells is_shut holds has_stopped J x (Err e) h told = subst (TellsWhy is_shut holds has_stopped J) (sym h.1) told

-- a clerk's number isn't 0
pub known_number : (n m : ℕ) → n ≡ m → m ≢ 0 → n ≢ 0
known_number n m e h z = h (sym e ∙ z)
