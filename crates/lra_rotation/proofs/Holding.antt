-- What workers have stands on disk, in use, and the versions that they follow say what it is.
use Rattle.std.proofs.Common.{◌≡◌, ◌≢◌, ℕ, ◌+◌, ◌<◌, ◌≤◌, ◌==◌, Bool, true, false, ◌&&◌, ◌||◌, not, if◌then◌else◌, List}
use Rattle.std.proofs.Common.{[], ◌∷◌, ◌++◌, Option, None, Some, inl, inr, refl, sym, ap, ◌∙◌, subst, arith}
use Rattle.std.specs.Prelude.{map, nat_le, IfSome, is_none, option_map, option_to_list}
use Rattle.std.proofs.lemmas.Bool.Decides.{eqb_tells, nat_tests}
use Rattle.lra_rotation.specs.declared.journal.RotationJournal.{RotationJournal}
use Rattle.lra_rotation.specs.declared.journal.Observation.{Observation}
use Rattle.lra_rotation.specs.declared.journal.RotationWorker.{RotationWorker}
use Rattle.lra_rotation.specs.declared.action.Change.{Change}
use Rattle.lra_rotation.specs.declared.action.Change.TheVariants as change
use Rattle.lra_rotation.specs.declared.action.RotationAction.{RotationAction}
use Rattle.lra_rotation.specs.declared.action.RotationAction.TheVariants as action
use Rattle.lra_rotation.specs.States.{State, has_next, next_version, listed, instance_of, set, is_current}
use Rattle.lra_rotation.specs.Deciding.{is_done, is_free, is_waiting, is_followed_by_all, is_left_by_all, may_archive}
use Rattle.lra_rotation.specs.Disks.{Disk, carried, without}
use Rattle.lra_rotation.specs.Runs.{done, failed, changed, changed_at, change_all, apart_from, Hold, other_workers}
use Rattle.lra_rotation.specs.Runs.{other_holds, worker, has_session}
use Rattle.lra_rotation.specs.Laws.{Suits, RowsBelow, some_is, is_among, rotates, AllAbove}
use Rattle.lra_rotation.proofs.Orders.{both, or_cases, or_left, or_right, and_both, same_instance, Those, RowsAbove}
use Rattle.lra_rotation.proofs.Orders.{RowsAscend}
use Rattle.lra_rotation.proofs.Among.{is_among-append, is_among-without, moved, same_of, not_same, not_above}
use Rattle.lra_rotation.proofs.Sound.{IsSound}
use Rattle.lra_rotation.proofs.Standing.{has_left_set, those_left}

-- a worker has a session in no journal that left before the set that it follows
abbrev pub ClearOne : Hold → RotationJournal → Type 0
ClearOne h j = (v : ℕ) → j.left ≡ Some v → v ≤ h.seen → is_among j.instance h.journals ≡ false

abbrev pub Clear : Hold → List RotationJournal → Type 0
Clear h [] = Unit {0}
Clear h (j ∷ js) = ClearOne h j × Clear h js

-- what a worker has, at a version of a set, and over a disk
pub record IsHeld (version : ℕ) (is : List ℕ) (ds : List ℕ) (older : List RotationJournal) (h : Hold) : Type 0 where
  pub seen : h.seen ≤ version
  pub within : (i : ℕ) → is_among i h.journals ≡ true → is_among i ds ≡ true
  pub clear : Clear h older
  pub now : h.seen ≡ version → h.journals ≡ is

abbrev pub EachHold : (Hold → Type 0) → List Hold → Type 0
EachHold P [] = Unit {0}
EachHold P (h ∷ hs) = P h × EachHold P hs

abbrev pub worker_of : Hold → RotationWorker
worker_of h = worker h.number h.seen

pub record AreHeld (s : State) (d : Disk) (hs : List Hold) : Type 0 where
  pub workers : s.workers ≡ map worker_of hs
  pub each : EachHold (IsHeld s.version (set s) d.journals s.older) hs

pub each_weaker : (P Q : Hold → Type 0) (hs : List Hold) → ((h : Hold) → P h → Q h) → EachHold P hs → EachHold Q hs
each_weaker P Q [] f k = tt
each_weaker P Q (h ∷ hs) f k = (f h k.0, each_weaker P Q hs f k.1)

each_two : (P Q R : Hold → Type 0) (hs : List Hold) → ((h : Hold) → P h → Q h → R h) → EachHold P hs → EachHold Q hs
    → EachHold R hs
each_two P Q R [] f k m = tt
each_two P Q R (h ∷ hs) f k m = (f h k.0 m.0, each_two P Q R hs f k.1 m.1)

-- ---- versions

pub next_is : (v : ℕ) → has_next v ≡ true → next_version v ≡ v + 1
next_is v e = ap (λ b. if b then v + 1 else v) e

-- ---- the set

pub listed_push : (js : List RotationJournal) (newest : Option RotationJournal)
    → IfSome newest (λ n. is_none n.left ≡ true) → listed (js ++ option_to_list newest) ≡ listed js ++ instance_of
    newest
listed_push [] None h = refl
listed_push [] (Some n) h = ap (λ b. if b then n.instance ∷ [] else []) h
listed_push (j ∷ js) newest h =
    elim (is_none j.left) as (λ b. (if b then j.instance ∷ listed (js ++ option_to_list newest)
    else listed (js ++ option_to_list newest)) ≡ (if b then j.instance ∷ listed js else listed js) ++ instance_of
    newest) [
      | true ↦ ap (λ is. j.instance ∷ is) (listed_push js newest h)
      | false ↦ listed_push js newest h
    ]

-- a change that leaves a journal in the set where it was
abbrev Leaves : Change → Type 0
Leaves c = (j : RotationJournal) → (changed c j).left ≡ j.left

leaves_at : (c : Change) (k : ℕ) (j : RotationJournal) → Leaves c → (changed_at c k j).left ≡ j.left
leaves_at c k j f = elim (j.instance == k) as (λ b. (if b then changed c j else j).left ≡ j.left) [
  | true ↦ f j
  | false ↦
      refl
]

pub listed_change : (c : Change) (k : ℕ) (js : List RotationJournal) → Leaves c → listed (change_all c k js) ≡ listed js
listed_change c k [] f = refl
listed_change c k (j ∷ js) f =
    ap (λ (o : Option ℕ). if is_none o then (changed_at c k j).instance ∷ listed (change_all c k js)
    else listed (change_all c k js)) (leaves_at c k j f)
    ∙ ap (λ (m : ℕ). if is_none j.left then m ∷ listed (change_all c k js) else listed (change_all c k js))
    (same_instance c k j)
    ∙ ap (λ (is : List ℕ). if is_none j.left then j.instance ∷ is else is) (listed_change c k js f)

pub closed_instance : (k : ℕ) (newest : Option RotationJournal)
    → instance_of (option_map (changed_at change.Close k) newest) ≡ instance_of newest
closed_instance k None = refl
closed_instance k (Some n) = ap (λ (m : ℕ). m ∷ []) (same_instance change.Close k n)

not_false : (b : Bool) → not b ≡ true → b ≡ false
not_false true e = absurd (let e : false ≡ true = e in cc)
not_false false e = refl

pub listed_apart : (k : ℕ) (js : List RotationJournal) → Those k has_left_set js → listed (apart_from k js) ≡ listed js
listed_apart k [] t = refl
listed_apart k (j ∷ js) t =
    let P : Bool → Type 0 = λ b. listed (if not b then j ∷ apart_from k js else apart_from k js) ≡ listed (j ∷ js) in
    elim (eqb_tells j.instance k) [
      | inl m ↦
          subst P (sym m.0) (listed_apart k js t.1 ∙ sym (ap (λ b. if b then j.instance ∷ listed js else listed js)
          (not_false (is_none j.left) (t.0 m.1))))
      | inr m ↦ subst P (sym m.0) (ap (λ (is : List ℕ). if is_none j.left then j.instance ∷ is else is)
          (listed_apart k js t.1))
    ]

-- a journal that has left is outside the set
abbrev pub Outside : List ℕ → List RotationJournal → Type 0
Outside is [] = Unit {0}
Outside is (j ∷ js) = (is_none j.left ≡ false → is_among j.instance is ≡ false) × Outside is js

outside_cons : (x : ℕ) (is : List ℕ) (js : List RotationJournal) → RowsAbove x js → Outside is js → Outside (x ∷ is) js
outside_cons x is [] a h = tt
outside_cons x is (j ∷ js) a h = (
  λ e. ap (λ b. b || is_among j.instance is) (not_same x j.instance (λ m. let lt = a.0 in omega arith)) ∙ h.0 e,
  outside_cons x is js a.1 h.1,
)

above_listed : (x : ℕ) (js : List RotationJournal) → RowsAbove x js → AllAbove x (listed js)
above_listed x [] h = tt
above_listed x (j ∷ js) h =
    elim (is_none j.left) as (λ b. AllAbove x (if b then j.instance ∷ listed js else listed js)) [
      | true ↦ (h.0, above_listed x js h.1)
      | false ↦ above_listed x js h.1
    ]

-- none of some journals is among others
abbrev Away : List ℕ → List RotationJournal → Type 0
Away is [] = Unit {0}
Away is (j ∷ js) = (is_among j.instance is ≡ false) × Away is js

two_false : (a b : Bool) → a ≡ false → b ≡ false → (a || b) ≡ false
two_false a b p q = ap (λ x. x || b) p ∙ q

outside_listed : (js : List RotationJournal) (tail : List ℕ) → RowsAscend js → Away tail js
    → Outside (listed js ++ tail) js
outside_listed [] tail a w = tt
outside_listed (j ∷ js) tail a w = by (outside_listed js tail a.1 w.1) (is_none j.left)
  where
    by : Outside (listed js ++ tail) js → (b : Bool)
        → (b ≡ false → is_among j.instance ((if b then j.instance ∷ listed js else listed js) ++ tail) ≡ false)
        × Outside ((if b then j.instance ∷ listed js else listed js) ++ tail) js
    by rest true = (λ (e : true ≡ false). absurd (cc), outside_cons j.instance (listed js ++ tail) js a.0 rest)
    by rest false = (
      λ _. is_among-append j.instance (listed js) tail ∙ two_false (is_among j.instance (listed js))
          (is_among j.instance tail) (not_above j.instance (listed js) (above_listed j.instance js a.0)) w.0,
      rest,
    )

away_newest : (js : List RotationJournal) (newest : Option RotationJournal)
    → IfSome newest (λ n. RowsBelow n.instance js) → Away (instance_of newest) js
away_newest [] newest h = tt
away_newest (j ∷ js) None h = (refl, away_newest js None tt)
away_newest (j ∷ js) (Some n) h = (
  ap (λ b. b || false) (not_same n.instance j.instance (λ e. let lt = h.0 in omega arith)),
  away_newest js (Some n) h.1,
)

pub outside_set : (s : State) (d : Disk) (used : List ℕ) → IsSound s d used → Outside (set s) s.older
outside_set s d used h = outside_listed s.older (instance_of s.newest) h.known.ascend
    (away_newest s.older s.newest h.known.under)

pub outside_at : (is : List ℕ) (p : RotationJournal → Bool) (js : List RotationJournal) (i : ℕ)
    → ((j : RotationJournal) → p j ≡ true → has_left_set j ≡ true) → Outside is js → some_is p js i ≡ true
    → is_among i is ≡ false
outside_at is p [] i f h e = absurd (let e : false ≡ true = e in cc)
outside_at is p (j ∷ js) i f h e = elim (or_cases ((j.instance == i) && p j) (some_is p js i) e) [
  | inl m ↦ subst (λ (x : ℕ). is_among x is ≡ false) (same_of j.instance i (both (j.instance == i) (p j) m).0)
      (h.0 (not_false (is_none j.left) (f j (both (j.instance == i) (p j) m).1)))
  | inr m ↦ outside_at is p js i f h.1 m
]

-- ---- what is left by all

le_tells : (v n : ℕ) → nat_le v n ≡ true → v ≤ n
le_tells v n e = grind (arith, nat_tests)

-- a worker has seen what all workers have seen
abbrev pub Sees : List RotationWorker → Hold → Type 0
Sees ws h = (v : ℕ) → is_followed_by_all ws v ≡ true → v ≤ h.seen

pub each_sees : (hs : List Hold) → EachHold (Sees (map worker_of hs)) hs
each_sees [] = tt
each_sees (h ∷ hs) = (
  λ v e. le_tells v h.seen (both (nat_le v h.seen) (is_followed_by_all (map worker_of hs) v) e).0,
  each_weaker (Sees (map worker_of hs)) (Sees (map worker_of (h ∷ hs))) hs
      (λ k f v e. f v (both (nat_le v h.seen) (is_followed_by_all (map worker_of hs) v) e).1) (each_sees hs),
)

clear_left : (ws : List RotationWorker) (h : Hold) (i : ℕ) (o : Option ℕ)
    → ((v : ℕ) → o ≡ Some v → v ≤ h.seen → is_among i h.journals ≡ false) → Sees ws h
    → is_left_by_all ws (record { instance = i; is_closed = false; left = o; stays = false }) ≡ true
    → is_among i h.journals ≡ false
clear_left ws h i None f sees e = absurd (let e : false ≡ true = e in cc)
clear_left ws h i (Some v) f sees e = f v refl (sees v e)

clear_at : (ws : List RotationWorker) (observations : List Observation) (r : ℕ) (js : List RotationJournal) (i : ℕ)
    (h : Hold) → Sees ws h → Clear h js → some_is (may_archive ws observations r) js i ≡ true
    → is_among i h.journals ≡ false
clear_at ws observations r [] i h sees c e = absurd (let e : false ≡ true = e in cc)
clear_at ws observations r (j ∷ js) i h sees c e =
    elim (or_cases ((j.instance == i) && may_archive ws observations r j) (some_is (may_archive ws observations r) js i)
    e) [
      | inl m ↦ (let k = both (j.instance == i) (may_archive ws observations r j) m in
          subst (λ (x : ℕ). is_among x h.journals ≡ false) (same_of j.instance i k.0)
          (clear_left ws h j.instance j.left c.0 sees
          (both (is_done observations r j.instance && is_free observations j.instance
          && not (is_waiting observations j.instance)) (is_left_by_all ws j) k.1).1))
      | inr m ↦ clear_at ws observations r js i h sees c.1 m
    ]

-- nobody has a session in what may be archived
pub unheld : (s : State) (d : Disk) (hs : List Hold) (observations : List Observation) (i : ℕ) → AreHeld s d hs
    → some_is (may_archive s.workers observations s.settings.remember) s.older i ≡ true
    → EachHold (λ h. is_among i h.journals ≡ false) hs
unheld s d hs observations i held e =
    each_two (Sees s.workers) (IsHeld s.version (set s) d.journals s.older) (λ h. is_among i h.journals ≡ false) hs
    (λ h sees k. clear_at s.workers observations s.settings.remember s.older i h sees k.clear e)
    (subst (λ (ws : List RotationWorker). EachHold (Sees ws) hs) (sym held.workers) (each_sees hs))
    held.each

pub no_session : (hs : List Hold) (k i : ℕ) → EachHold (λ h. is_among i h.journals ≡ false) hs
    → has_session hs k i ≡ false
no_session [] k i e = refl
no_session (h ∷ hs) k i e = two_false ((h.number == k) && is_among i h.journals) (has_session hs k i)
    (none (h.number == k) (is_among i h.journals) e.0) (no_session hs k i e.1)
  where
    none : (a b : Bool) → b ≡ false → (a && b) ≡ false
    none true b p = p
    none false b p = refl

pub session_stands : (version : ℕ) (is ds : List ℕ) (older : List RotationJournal) (hs : List Hold) (k i : ℕ)
    → EachHold (IsHeld version is ds older) hs → has_session hs k i ≡ true → is_among i ds ≡ true
session_stands version is ds older [] k i e s = absurd (let s : false ≡ true = s in cc)
session_stands version is ds older (h ∷ hs) k i e s =
    elim (or_cases ((h.number == k) && is_among i h.journals) (has_session hs k i) s) [
      | inl m ↦ e.0.within i (both (h.number == k) (is_among i h.journals) m).1
      | inr m ↦ session_stands version is ds older hs k i e.1 m
    ]

-- a worker that follows the set that is served has a session in each journal of it
pub current_session : (version : ℕ) (is ds : List ℕ) (older : List RotationJournal) (hs : List Hold) (k i : ℕ)
    → EachHold (IsHeld version is ds older) hs → is_among i is ≡ true → is_current (map worker_of hs) k version ≡ true
    → has_session hs k i ≡ true
current_session version is ds older [] k i e m s = absurd (let s : false ≡ true = s in cc)
current_session version is ds older (h ∷ hs) k i e m s =
    elim (or_cases ((h.number == k) && (h.seen == version)) (is_current (map worker_of hs) k version) s) [
      | inl n ↦ (let b = both (h.number == k) (h.seen == version) n in
          or_left ((h.number == k) && is_among i h.journals) (has_session hs k i)
          (and_both (h.number == k) (is_among i h.journals) b.0 (subst (λ (xs : List ℕ). is_among i xs ≡ true)
          (sym (e.0.now (same_of h.seen version b.1))) m)))
      | inr n ↦ or_right ((h.number == k) && is_among i h.journals) (has_session hs k i)
          (current_session version is ds older hs k i e.1 m n)
    ]

-- ---- what is done next keeps all that

-- a change after the set that a worker follows
abbrev IsLate : Change → Hold → Type 0
IsLate change.Close h = Unit {0}
IsLate (change.Leave v) h = h.seen < v
IsLate change.Stay h = Unit {0}

some_same : (v w : ℕ) → Some v ≡ Some w → v ≡ w
some_same v w e = cc

clear_one : (h : Hold) (c : Change) (j : RotationJournal) → IsLate c h → ClearOne h j → ClearOne h (changed c j)
clear_one h change.Close j late f = f
clear_one h (change.Leave v) j late f = λ w e le. absurd (let m = some_same v w e in omega arith)
clear_one h change.Stay j late f = f

clear_change : (h : Hold) (c : Change) (k : ℕ) (js : List RotationJournal) → IsLate c h → Clear h js
    → Clear h (change_all c k js)
clear_change h c k [] late f = tt
clear_change h c k (j ∷ js) late f = (
  elim (j.instance == k) as (λ b. ClearOne h (if b then changed c j else j))
      [ true ↦ clear_one h c j late f.0 | false ↦ f.0 ],
  clear_change h c k js late f.1,
)

clear_apart : (h : Hold) (k : ℕ) (js : List RotationJournal) → Clear h js → Clear h (apart_from k js)
clear_apart h k [] f = tt
clear_apart h k (j ∷ js) f =
    elim (j.instance == k) as (λ b. Clear h (if not b then j ∷ apart_from k js else apart_from k js)) [
      | true ↦ clear_apart h k js f.1
      | false ↦ (f.0, clear_apart h k js f.1)
    ]

none_left : (o : Option ℕ) (v : ℕ) → is_none o ≡ true → o ≡ Some v → ⊥
none_left None v e k = absurd (let k : None ≡ Some v = k in cc)
none_left (Some w) v e k = absurd (let e : false ≡ true = e in cc)

clear_push : (h : Hold) (js : List RotationJournal) (newest : Option RotationJournal)
    → IfSome newest (λ n. is_none n.left ≡ true) → Clear h js → Clear h (js ++ option_to_list newest)
clear_push h [] None n f = tt
clear_push h [] (Some m) n f = (λ v e le. absurd (none_left m.left v n e), tt)
clear_push h (j ∷ js) newest n f = (f.0, clear_push h js newest n f.1)

clear_outside : (h : Hold) (js : List RotationJournal) → Outside h.journals js → Clear h js
clear_outside h [] f = tt
clear_outside h (j ∷ js) f = (λ v e le. f.0 (told j.left v e), clear_outside h js f.1)
  where
    told : (o : Option ℕ) (v : ℕ) → o ≡ Some v → is_none o ≡ false
    told o v e = ap is_none e

-- a new set, which no worker follows
held_next : (version : ℕ) (is later ds : List ℕ) (older others : List RotationJournal) (h : Hold) (to : ℕ)
    → to ≡ version + 1 → Clear h others → IsHeld version is ds older h → IsHeld to later ds others h
held_next version is later ds older others h to e c k = record {
  seen = (let le = k.seen in omega arith);
  within = k.within;
  clear = c;
  now = λ m. absurd (let le = k.seen in omega arith);
}

-- the same set, of journals that have changed
held_same : (version : ℕ) (is later ds : List ℕ) (older others : List RotationJournal) (h : Hold) → later ≡ is
    → Clear h others → IsHeld version is ds older h → IsHeld version later ds others h
held_same version is later ds older others h e c k = record {
  seen = k.seen;
  within = k.within;
  clear = c;
  now = λ m. k.now m ∙ sym e;
}

-- a disk that has all that was held
held_on : (version : ℕ) (is ds es : List ℕ) (older : List RotationJournal) (h : Hold)
    → ((i : ℕ) → is_among i h.journals ≡ true → is_among i ds ≡ true → is_among i es ≡ true)
    → IsHeld version is ds older h → IsHeld version is es older h
held_on version is ds es older h f k = record {
  seen = k.seen;
  within = λ i e. f i e (k.within i e);
  clear = k.clear;
  now = k.now;
}

other_than : (i k : ℕ) (xs : List ℕ) → is_among k xs ≡ false → is_among i xs ≡ true → i ≢ k
other_than i k xs e m same = absurd (let no : false ≡ true = sym e ∙ subst (λ (x : ℕ). is_among x xs ≡ true) same m in
    cc)

each_more : (version : ℕ) (is ds es : List ℕ) (older : List RotationJournal) (hs : List Hold)
    → ((i : ℕ) → is_among i ds ≡ true → is_among i es ≡ true) → EachHold (IsHeld version is ds older) hs
    → EachHold (IsHeld version is es older) hs
each_more version is ds es older hs f e = each_weaker (IsHeld version is ds older) (IsHeld version is es older) hs
    (λ h k. held_on version is ds es older h (λ i m n. f i n) k) e

each_gone : (version : ℕ) (is ds : List ℕ) (older : List RotationJournal) (hs : List Hold) (k : ℕ)
    → EachHold (λ h. is_among k h.journals ≡ false) hs → EachHold (IsHeld version is ds older) hs
    → EachHold (IsHeld version is (without k ds) older) hs
each_gone version is ds older hs k none e = each_two (λ h. is_among k h.journals ≡ false) (IsHeld version is ds older)
    (IsHeld version is (without k ds) older) hs (λ h n m. held_on version is ds (without k ds) older h
    (λ i a b. is_among-without i k ds (other_than i k h.journals n a) b) m) none e

has_newer : (s : State) → rotates s ≡ true → has_next s.version ≡ true
has_newer s e = (both s.settings.rolls (has_next s.version) e).1

pub held_done : (s : State) (d : Disk) (used : List ℕ) (hs : List Hold) (observations : List Observation)
    (a : RotationAction) → IfSome s.newest (λ n. is_none n.left ≡ true) → Suits s observations a → IsSound s d used
    → AreHeld s d hs → AreHeld (done s a) (carried a d) hs
held_done s d used hs observations (action.Remove k) top suits h g = record { workers = g.workers; each = g.each }
held_done s d used hs observations (action.Note k) top suits h g = record { workers = g.workers; each = g.each }
held_done s d used hs observations (action.Prepare k) top suits h g = record { workers = g.workers; each = g.each }
held_done s d used hs observations (action.Name k) top suits h g =
    record {
      workers = g.workers;
      each = each_more s.version (set s) d.journals (without k d.journals ++ k ∷ []) s.older
          hs (λ i e. moved i k d.journals e) g.each;
    }
held_done s d used hs observations (action.Switch k) top suits h g = record {
  workers = g.workers;
  each = each_weaker (IsHeld s.version (set s) d.journals s.older) _ hs (λ x m. held_next s.version (set s) _ d.journals
      s.older (s.older ++ option_to_list s.newest) x (next_version s.version) (next_is s.version (has_newer s suits.1))
      (clear_push x s.older s.newest top m.clear) m) g.each;
}
held_done s d used hs observations (action.Close k) top suits h g = record {
  workers = g.workers;
  each = each_weaker (IsHeld s.version (set s) d.journals s.older) _ hs (λ x m. held_same s.version (set s) _ d.journals
      s.older (change_all change.Close k s.older) x same (clear_change x change.Close k s.older tt m.clear) m) g.each;
}
  where
    same : listed (change_all change.Close k s.older) ++ instance_of (option_map (changed_at change.Close k) s.newest)
        ≡ listed s.older ++ instance_of s.newest
    same = ap (λ (is : List ℕ). is ++ instance_of (option_map (changed_at change.Close k) s.newest))
        (listed_change change.Close k s.older (λ j. refl)) ∙ ap (λ (is : List ℕ). listed s.older ++ is)
        (closed_instance k s.newest)
held_done s d used hs observations (action.Withdraw k) top suits h g = record {
  workers = g.workers;
  each = each_weaker (IsHeld s.version (set s) d.journals s.older) _ hs (λ x m. held_next s.version (set s) _ d.journals
      s.older (change_all (change.Leave (next_version s.version)) k s.older) x (next_version s.version)
      (next_is s.version (has_newer s suits.1)) (clear_change x (change.Leave (next_version s.version)) k s.older
      (late x m.seen) m.clear) m) g.each;
}
  where
    late : (x : Hold) → x.seen ≤ s.version → x.seen < next_version s.version
    late x le = subst (λ (n : ℕ). x.seen < n) (sym (next_is s.version (has_newer s suits.1))) (omega arith)
held_done s d used hs observations (action.Archive k) top suits h g = record {
  workers = g.workers;
  each = each_weaker (IsHeld s.version (set s) (without k d.journals) s.older) _ hs
      (λ x m. held_same s.version (set s) _ (without k d.journals) s.older (apart_from k s.older) x same
      (clear_apart x k s.older m.clear) m)
      (each_gone s.version (set s) d.journals s.older hs k (unheld s d hs observations k g suits.0) g.each);
}
  where
    same : listed (apart_from k s.older) ++ instance_of s.newest ≡ listed s.older ++ instance_of s.newest
    same = ap (λ (is : List ℕ). is ++ instance_of s.newest)
        (listed_apart k s.older (those_left s observations k h.known.ascend suits.0))
held_done s d used hs observations action.End top suits h g = record { workers = g.workers; each = g.each }
held_done s d used hs observations action.Fail top suits h g = record { workers = g.workers; each = g.each }

stayed_set : (s : State) (k : ℕ) → listed (change_all change.Stay k s.older) ++ instance_of s.newest ≡ listed s.older
    ++ instance_of s.newest
stayed_set s k = ap (λ (is : List ℕ). is ++ instance_of s.newest) (listed_change change.Stay k s.older (λ j. refl))

pub failed_set : (s : State) (a : RotationAction) → set (failed s a) ≡ set s
failed_set s (action.Remove k) = refl
failed_set s (action.Note k) = refl
failed_set s (action.Prepare k) = refl
failed_set s (action.Name k) = refl
failed_set s (action.Switch k) = refl
failed_set s (action.Close k) = refl
failed_set s (action.Withdraw k) = stayed_set s k
failed_set s (action.Archive k) = stayed_set s k
failed_set s action.End = refl
failed_set s action.Fail = refl

stays_held : (s : State) (d : Disk) (hs : List Hold) (k : ℕ) → AreHeld s d hs
    → AreHeld (record s { older = change_all change.Stay k s.older }) d hs
stays_held s d hs k g = record {
  workers = g.workers;
  each = each_weaker (IsHeld s.version (set s) d.journals s.older) _ hs (λ x m. held_same s.version (set s) _ d.journals
      s.older (change_all change.Stay k s.older) x (stayed_set s k) (clear_change x change.Stay k s.older tt m.clear) m)
      g.each;
}

held_still : (s : State) (d : Disk) (hs : List Hold) (a : RotationAction) → AreHeld s d hs → AreHeld (failed s a) d hs
held_still s d hs (action.Remove k) g = record { workers = g.workers; each = g.each }
held_still s d hs (action.Note k) g = g
held_still s d hs (action.Prepare k) g = record { workers = g.workers; each = g.each }
held_still s d hs (action.Name k) g = g
held_still s d hs (action.Switch k) g = g
held_still s d hs (action.Close k) g = g
held_still s d hs (action.Withdraw k) g = stays_held s d hs k g
held_still s d hs (action.Archive k) g = stays_held s d hs k g
held_still s d hs action.End g = record { workers = g.workers; each = g.each }
held_still s d hs action.Fail g = record { workers = g.workers; each = g.each }

held_taken : (s : State) (d : Disk) (hs : List Hold) (observations : List Observation) (a : RotationAction)
    → Suits s observations a → AreHeld s d hs → AreHeld s (carried a d) hs
held_taken s d hs observations (action.Name k) suits g =
    record {
      workers = g.workers;
      each = each_more s.version (set s) d.journals (without k d.journals ++ k ∷ []) s.older
          hs (λ i e. moved i k d.journals e) g.each;
    }
held_taken s d hs observations (action.Archive k) suits g =
    record {
      workers = g.workers;
      each = each_gone s.version (set s) d.journals s.older hs k
          (unheld s d hs observations k g suits.0) g.each;
    }
held_taken s d hs observations (action.Remove k) suits g = record { workers = g.workers; each = g.each }
held_taken s d hs observations (action.Note k) suits g = record { workers = g.workers; each = g.each }
held_taken s d hs observations (action.Prepare k) suits g = record { workers = g.workers; each = g.each }
held_taken s d hs observations (action.Switch k) suits g = g
held_taken s d hs observations (action.Close k) suits g = g
held_taken s d hs observations (action.Withdraw k) suits g = g
held_taken s d hs observations action.End suits g = g
held_taken s d hs observations action.Fail suits g = g

pub held_failed : (s : State) (d : Disk) (hs : List Hold) (observations : List Observation) (took : Bool)
    (a : RotationAction) → Suits s observations a → AreHeld s d hs
    → AreHeld (failed s a) (if took then carried a d else d) hs
held_failed s d hs observations true a suits g = held_still s (carried a d) hs a
    (held_taken s d hs observations a suits g)
held_failed s d hs observations false a suits g = held_still s d hs a g

-- ---- workers come and go

pub others_same : (k : ℕ) (hs : List Hold) → other_workers k (map worker_of hs) ≡ map worker_of (other_holds k hs)
others_same k [] = refl
others_same k (h ∷ hs) = elim (h.number == k) as (λ b. (if not b then worker_of h ∷ other_workers k (map worker_of hs)
    else other_workers k (map worker_of hs))
    ≡ map worker_of (if not b then h ∷ other_holds k hs else other_holds k hs)) [
      | true ↦ others_same k hs
      | false ↦ ap (λ ws. worker_of h ∷ ws) (others_same k hs)
    ]

pub each_others : (P : Hold → Type 0) (k : ℕ) (hs : List Hold) → EachHold P hs → EachHold P (other_holds k hs)
each_others P k [] e = tt
each_others P k (h ∷ hs) e =
    elim (h.number == k) as (λ b. EachHold P (if not b then h ∷ other_holds k hs else other_holds k hs)) [
      | true ↦ each_others P k hs e.1
      | false ↦ (e.0, each_others P k hs e.1)
    ]

map_push : (hs : List Hold) (h : Hold) → map worker_of (hs ++ h ∷ []) ≡ map worker_of hs ++ worker_of h ∷ []
map_push [] h = refl
map_push (x ∷ hs) h = ap (λ ws. worker_of x ∷ ws) (map_push hs h)

each_push : (P : Hold → Type 0) (hs : List Hold) (h : Hold) → EachHold P hs → P h → EachHold P (hs ++ h ∷ [])
each_push P [] h e p = (p, tt)
each_push P (x ∷ hs) h e p = (e.0, each_push P hs h e.1 p)

pub refused_workers : (ws : List RotationWorker) (k : ℕ) (hs : List Hold) → ws ≡ map worker_of hs
    → other_workers k ws ≡ map worker_of (other_holds k hs)
refused_workers ws k hs e = ap (other_workers k) e ∙ others_same k hs

pub followed_workers : (ws : List RotationWorker) (k v : ℕ) (is : List ℕ) (hs : List Hold) → ws ≡ map worker_of hs
    → other_workers k ws ++ worker k v ∷ [] ≡ map worker_of
    (other_holds k hs ++ record { number = k; seen = v; journals = is } ∷ [])
followed_workers ws k v is hs e = ap (λ us. us ++ worker k v ∷ []) (refused_workers ws k hs e)
    ∙ sym (map_push (other_holds k hs) (record { number = k; seen = v; journals = is }))

pub followed_each : (s : State) (d : Disk) (used : List ℕ) (k : ℕ) (hs : List Hold)
    → ((i : ℕ) → is_among i (set s) ≡ true → is_among i d.journals ≡ true) → IsSound s d used
    → EachHold (IsHeld s.version (set s) d.journals s.older) hs
    → EachHold (IsHeld s.version (set s) d.journals s.older) (other_holds k hs ++ record {
      number = k;
      seen = s.version;
      journals = set s;
    } ∷ [])
followed_each s d used k hs f h e = each_push (IsHeld s.version (set s) d.journals s.older) (other_holds k hs)
    (record { number = k; seen = s.version; journals = set s })
    (each_others (IsHeld s.version (set s) d.journals s.older) k hs e)
    (record {
      seen = omega arith;
      within = f;
      clear = clear_outside (record { number = k; seen = s.version; journals = set s }) s.older
          (outside_set s d used h);
      now = λ _. refl;
    })
