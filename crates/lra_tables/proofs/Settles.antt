-- What settles next may be applied, and leaves less to settle.
use Rattle.std.proofs.Common.{◌≡◌, ℕ, zero, suc, ◌^◌, Bool, true, false, List, [], ◌∷◌, ◌++◌, Option, Some, None, refl}
use Rattle.std.proofs.Common.{sym, ap, ◌∙◌, subst, append_assoc, append-nil}
use Rattle.std.specs.Prelude.{nat_lt, ◌&&◌}
use Rattle.std.specs.Option.{option_map_or}
use Rattle.lra_model.specs.declared.version.Version.{Version}
use Rattle.lra_model.specs.declared.entry.Deed.{Deed}
use Rattle.lra_model.specs.declared.entry.Deed.TheVariants.{Close, Cancel, Skip, End}
use Rattle.lra_model.specs.declared.entry.Entry.{Entry}
use Rattle.lra_model.specs.History.{History}
use Rattle.lra_model.specs.Rules.{is_legal, allows}
use Rattle.lra_model.specs.Settling.{is_settling, next_settling, settling_within, most_settling, with_settling}
use Rattle.lra_laws.specs.Snapshots.{StateSnapshot, StandsFor, Follows}
use Rattle.lra_laws.proofs.Legal.{allowed, allows_from}
use Rattle.lra_laws.proofs.Writes.{MayWrite, may_go_on}
use Rattle.lra_laws.proofs.Settled.{settling_allowed}
use Rattle.lra_laws.proofs.Rests.{next_settles}
use Rattle.lra_rows.specs.Rowed as rows
use Rattle.lra_rows.specs.Rowed.{addresses_joined}
use Rattle.lra_tables.specs.inner.Boarded.{Boarded, has_room, marks_take}
use Rattle.lra_tables.specs.inner.UndoLog.{MayGoOn, SettlesTo, Going}

-- ---- what settles takes no room and no addresses

pub no_addresses : (d : Deed) → is_settling d ≡ true → None ≡ addresses_joined d
no_addresses (Close a c) h = refl
no_addresses (Cancel a c) h = refl
no_addresses (Skip p) h = refl
no_addresses (End a s) h = refl
no_addresses _ h = absurd cc

deed_room : (d : Deed) (b : Boarded) → is_settling d ≡ true → (rows.deed_has_room d b.rows && marks_take d b) ≡ true
deed_room (Close a c) b h = refl
deed_room (Cancel a c) b h = refl
deed_room (Skip p) b h = refl
deed_room (End a s) b h = refl
deed_room _ b h = absurd cc

pub settling_room : (e : Entry) (b : Boarded) → is_settling e.deed ≡ true → nat_lt b.rows.snapshot.entries (2 ^ 63)
    ≡ true
    → has_room e b ≡ true
settling_room e b h k = regroup (nat_lt b.rows.snapshot.entries (2 ^ 63)) (rows.deed_has_room e.deed b.rows)
    (marks_take e.deed b) k (deed_room e.deed b h)
  where
    regroup : (x y z : Bool) → x ≡ true → (y && z) ≡ true → ((x && y) && z) ≡ true
    regroup true y z g i = i
    regroup false y z g i = absurd cc

-- ---- what settles next is allowed

may_write : (b : Boarded) (K : History) (by m : ℕ) (h : MayGoOn b K by m)
    → MayWrite h.stands.version h.stands.is_address K by m
may_write b K by m h = record { legal = h.stands.legal; clerk = h.clerk; moment = h.later; fits = h.fits }

pub next_allowed : (b : Boarded) (K : History) (by m : ℕ) (d : Deed) (h : MayGoOn b K by m) → Some d ≡ next_settling K
    → allows h.stands.version h.stands.is_address K (record { by = by; moment = m; deed = d }) ≡ true
next_allowed b K by m d h next = allows_from h.stands.version h.stands.is_address K
    (record { by = by; moment = m; deed = d }) (settling_allowed h.stands.version h.stands.is_address K by m d
    (may_write b K by m h) (sym next))

pub next_is_settling : (K : History) (d : Deed) → Some d ≡ next_settling K → is_settling d ≡ true
next_is_settling K d next = next_settles K d (sym next)

-- the clerk that wrote an entry may go on
pub goes_on : (b : Boarded) (J : History) (e : Entry) (v : Version) (t : List ℕ → Bool)
    → (k : StandsFor b.rows.snapshot (J ++ e ∷ [])) → MayWrite v t (J ++ e ∷ []) e.by e.moment
    → MayGoOn b (J ++ e ∷ []) e.by e.moment
goes_on b J e v t k w = record { stands = k; clerk = w.clerk; later = w.moment; fits = w.fits }

pub may_more : (b after : Boarded) (K : History) (by m : ℕ) (d : Deed) (h : MayGoOn b K by m) → Some d ≡ next_settling K
    → StandsFor after.rows.snapshot (K ++ record { by = by; moment = m; deed = d } ∷ [])
    → MayGoOn after (K ++ record { by = by; moment = m; deed = d } ∷ []) by m
may_more b after K by m d h next k =
    let e : Entry = record { by = by; moment = m; deed = d } in
    goes_on after K e h.stands.version h.stands.is_address k (may_go_on h.stands.version h.stands.is_address K by m d
    h.stands.legal (settling_allowed h.stands.version h.stands.is_address K by m d (may_write b K by m h)
    (sym next)))

-- ---- what is left to settle

pub settled : (n by m : ℕ) (K : History) → None ≡ next_settling K → settling_within n by m K ≡ []
settled zero by m K none = refl
settled (suc n) by m K none =
    ap (λ (o : Option Deed). option_map_or (λ (d : Deed). record { by = by; moment = m; deed = d }
    ∷ settling_within n by m (K ++ record { by = by; moment = m; deed = d } ∷ [])) o []) (sym none)

-- one settling entry is applied
pub settles_more : (J : History) (by m n : ℕ) (b after : Boarded) (es whole : List Entry) (d : Deed)
    → SettlesTo J by m (suc n) b es whole → Some d ≡ next_settling (J ++ es)
    → ((K : History) → MayGoOn b K by m → Some d ≡ next_settling K → MayGoOn after
    (K ++ record { by = by; moment = m; deed = d } ∷ []) by m) → SettlesTo J by m n after
    (es ++ record { by = by; moment = m; deed = d } ∷ []) whole
settles_more J by m n b after es whole d h next goes =
    let e : Entry = record { by = by; moment = m; deed = d } in
    let longer : (J ++ es) ++ e ∷ [] ≡ J ++ (es ++ e ∷ []) = append_assoc J es (e ∷ []) in
    record {
      may = subst (λ (K : History). MayGoOn after K by m) longer (goes (J ++ es) h.may next);
      left =
          h.left
          ∙ ap (λ (o : Option Deed). es ++ option_map_or (λ (x : Deed). record { by = by; moment = m; deed = x }
          ∷ settling_within n by m ((J ++ es) ++ record { by = by; moment = m; deed = x } ∷ [])) o []) (sym next)
          ∙ sym (append_assoc es (e ∷ []) (settling_within n by m ((J ++ es) ++ e ∷ [])))
          ∙ ap (λ (K : History). (es ++ e ∷ []) ++ settling_within n by m K) longer;
    }

-- nothing more settles
pub settles_no_more : (J : History) (by m n : ℕ) (b : Boarded) (es whole : List Entry) → SettlesTo J by m n b es whole
    → None ≡ next_settling (J ++ es) → es ≡ whole
settles_no_more J by m n b es whole h none = sym (h.left ∙ ap (λ (xs : List Entry). es ++ xs)
    (settled n by m (J ++ es) none) ∙ append-nil es)

-- all that there can be was applied
pub settles_all : (J : History) (by m n : ℕ) (b : Boarded) (es whole : List Entry) → SettlesTo J by m n b es whole → n
    ≡ 0 → es ≡ whole
settles_all J by m n b es whole h none = sym (h.left ∙ ap (λ (k : ℕ). es ++ settling_within k by m (J ++ es)) none
    ∙ append-nil es)

-- after an entry that is allowed, what settles is left
pub settles_first : (J : History) (e : Entry) (b : Boarded) (n : ℕ) (v : Version) (t : List ℕ → Bool) → is_legal v t J
    ≡ true → allows v t J e ≡ true → StandsFor b.rows.snapshot (J ++ e ∷ []) → n ≡ most_settling (J ++ e ∷ [])
    → SettlesTo J e.by e.moment n b (e ∷ []) (with_settling J e)
settles_first J e b n v t l k stands most = record {
  may = goes_on b J e v t stands (may_go_on v t J e.by e.moment e.deed l (allowed v t J e k));
  left = ap (λ (i : ℕ). e ∷ settling_within i e.by e.moment (J ++ e ∷ [])) (sym most);
}

pub settles_start : (J : History) (e : Entry) (b : Boarded) (n by m : ℕ) (es : List Entry) (v : Version)
    (t : List ℕ → Bool) → is_legal v t J ≡ true → allows v t J e ≡ true → StandsFor b.rows.snapshot (J ++ e ∷ []) → n
    ≡ most_settling (J ++ e ∷ [])
    → by ≡ e.by → m ≡ e.moment → es ≡ e ∷ [] → SettlesTo J by m n b es (with_settling J e)
settles_start J e b n by m es v t l k stands most is_by is_moment is_first =
    subst (λ x. SettlesTo J x m n b es (with_settling J e)) (sym is_by)
    (subst (λ x. SettlesTo J e.by x n b es (with_settling J e)) (sym is_moment)
    (subst (λ (xs : List Entry). SettlesTo J e.by e.moment n b xs (with_settling J e)) (sym is_first)
    (settles_first J e b n v t l k stands most)))

-- the clerk whose entry was applied may go on
pub going_after : (s : StateSnapshot) (e : Entry) (b : Boarded) (f : Follows s e)
    → StandsFor b.rows.snapshot (f.history ++ e ∷ [])
    → Going b e.by e.moment
going_after s e b f k = record {
  history = f.history ++ e ∷ [];
  may = goes_on b f.history e f.stands.version f.stands.is_address k
      (may_go_on f.stands.version f.stands.is_address f.history e.by e.moment e.deed f.stands.legal
      (allowed f.stands.version f.stands.is_address f.history e f.allowed));
}
