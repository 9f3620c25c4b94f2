-- The index is kept with one more entry.
use Rattle.std.proofs.Common.{◌≡◌, ℕ, Bool, true, false, cond, List, [], ◌∷◌, ◌++◌, Some, None, refl, sym, ap, ◌∙◌}
use Rattle.std.proofs.Common.{subst}
use Rattle.std.specs.Prelude.{◌==◌}
use Rattle.lra_model.specs.declared.entry.Deed.{Deed}
use Rattle.lra_model.specs.declared.entry.Deed.TheVariants.{Join, Leave}
use Rattle.lra_model.specs.declared.entry.Entry.{Entry}
use Rattle.lra_model.specs.Addresses.{Addresses}
use Rattle.lra_model.specs.History.{History, members, is_among}
use Rattle.lra_model.specs.Members.{action_of, addresses_of}
use Rattle.lra_laws.specs.Snapshots.{StateSnapshot, StandsFor}
use Rattle.lra_laws.proofs.Legal.{Allowed, allowed}
use Rattle.lra_laws.proofs.Named.{member_there_push}
use Rattle.lra_laws.proofs.MemberWords.{action_kept, addresses_kept}
use Rattle.lra_laws.proofs.SnapshotPush.{StandsFor-push}
use Rattle.lra_laws.proofs.Told.{entry, told}
use Rattle.lra_tables.specs.inner.Digests.{digest_of}
use Rattle.lra_tables.specs.inner.Listed.{Indexed, IsListed, IsCounted, without}
use Rattle.lra_rows.specs.declared.found.MemberRow.{MemberRow}
use Rattle.lra_rows.specs.Found.{found_member, found_addresses}
use Rattle.lra_tables.specs.inner.Kept.{staying_with, IsKept, IsKeptBefore}
use Rattle.lra_tables.proofs.Staying.{staying_few, one_staying, staying_still, staying_joined, staying_left}

-- the history with the entry
abbrev pub now : (i : Indexed) (e : Entry) (s : StateSnapshot) → IsKeptBefore i e s → History
now i e s b = b.follows.history ++ e ∷ []

pub stands_now : (i : Indexed) (e : Entry) (s : StateSnapshot) (b : IsKeptBefore i e s) → StandsFor s (now i e s b)
stands_now i e s b = subst (λ (x : StateSnapshot). StandsFor x (now i e s b)) (sym b.after)
    (StandsFor-push b.before b.follows.history e b.follows.stands b.follows.allowed)

may_follow : (i : Indexed) (e : Entry) (s : StateSnapshot) (b : IsKeptBefore i e s)
    → Allowed b.follows.stands.version b.follows.stands.is_address b.follows.history e
may_follow i e s b = allowed b.follows.stands.version b.follows.stands.is_address b.follows.history e b.follows.allowed

-- what is under a digest can be counted
pub counted : (i : Indexed) (e : Entry) (s : StateSnapshot) → IsKeptBefore i e s → (digest : ℕ) → IsCounted i digest
counted i e s b digest =
    let J : History = b.follows.history in
    let h : StandsFor b.before J = b.follows.stands in
    (staying_with i.key digest J, b.kept J h digest, staying_few h.version h.is_address J h.legal i.key digest)

-- kept of one history, it is kept of each
keeping : (i new : Indexed) (e : Entry) (s : StateSnapshot) (b : IsKeptBefore i e s) → new.key ≡ i.key
    → ((digest : ℕ) → IsListed new digest (staying_with i.key digest (now i e s b))) → IsKept new s
keeping i new e s b same listed J h digest =
    subst (IsListed new digest)
    (sym (one_staying s (now i e s b) J (stands_now i e s b) h new.key digest
    ∙ ap (λ (key : ℕ). staying_with key digest (now i e s b)) same))
    (listed digest)

-- a member joins
pub kept_joined : (i new : Indexed) (e : Entry) (s : StateSnapshot) (b : IsKeptBefore i e s) (p a : ℕ) (u : Addresses)
    (digest : ℕ) → e.deed ≡ Join p a u → digest ≡ digest_of i.key a u → new.key ≡ i.key
    → ((other : ℕ) (ns : List ℕ) → IsListed i other ns → IsListed new other (cond (digest == other) (ns ++ p ∷ []) ns))
    → IsKept new s
kept_joined i new e s b p a u digest is at same listed = keeping i new e s b same (λ other.
    subst (IsListed new other)
    (ap (λ (d : ℕ). cond (d == other) (staying_with i.key other J ++ p ∷ []) (staying_with i.key other J)) at
    ∙ sym (staying_joined h.version h.is_address J e.by e.moment p a u h.legal
    (subst (λ (d : Deed). Allowed h.version h.is_address J (entry e.by e.moment d)) is (may_follow i e s b)) i.key
    other)
    ∙ ap (λ (d : Deed). staying_with i.key other (J ++ entry e.by e.moment d ∷ [])) (sym is))
    (listed other (staying_with i.key other J) (b.kept J h other)))
  where
    J : History
    J = b.follows.history

    h : StandsFor b.before b.follows.history
    h = b.follows.stands

-- a member leaves
pub kept_left : (i new : Indexed) (e : Entry) (s : StateSnapshot) (b : IsKeptBefore i e s) (p digest : ℕ) → e.deed
    ≡ Leave p
    → digest ≡ digest_of i.key (action_of (now i e s b) p) (addresses_of (now i e s b) p) → new.key ≡ i.key
    → ((other : ℕ) (ns : List ℕ) → IsListed i other ns → IsListed new other (cond (digest == other) (without p ns) ns))
    → IsKept new s
kept_left i new e s b p digest is at same listed = keeping i new e s b same (λ other.
    subst (IsListed new other)
    (ap (λ (d : ℕ). cond (d == other) (without p (staying_with i.key other J)) (staying_with i.key other J)) stayed
    ∙ sym (staying_left h.version h.is_address J e.by e.moment p h.legal there i.key other)
    ∙ ap (λ (d : Deed). staying_with i.key other (J ++ entry e.by e.moment d ∷ [])) (sym is))
    (listed other (staying_with i.key other J) (b.kept J h other)))
  where
    J : History
    J = b.follows.history

    h : StandsFor b.before b.follows.history
    h = b.follows.stands

    there : is_among (members b.follows.history) p ≡ true
    there = told h.version h.is_address J e.by e.moment (Leave p) (subst
        (λ (d : Deed). Allowed h.version h.is_address J (entry e.by e.moment d)) is (may_follow i e s b))

    stayed : digest ≡ digest_of i.key (action_of b.follows.history p) (addresses_of b.follows.history p)
    stayed =
        at
        ∙ ap (λ (d : Deed). digest_of i.key (action_of (J ++ entry e.by e.moment d ∷ []) p)
        (addresses_of (J ++ entry e.by e.moment d ∷ []) p)) is
        ∙ (λ k. digest_of i.key (action_kept J e.by e.moment (Leave p) p refl k)
        (addresses_kept J e.by e.moment (Leave p) p refl k))

-- a member that leaves is there
pub leaves_there : (i : Indexed) (e : Entry) (s : StateSnapshot) (b : IsKeptBefore i e s) (p : ℕ) → e.deed ≡ Leave p
    → is_among (members (now i e s b)) p ≡ true
leaves_there i e s b p is =
    let J : History = b.follows.history in
    let h : StandsFor b.before J = b.follows.stands in
    member_there_push J e p (told h.version h.is_address J e.by e.moment (Leave p)
    (subst (λ (d : Deed). Allowed h.version h.is_address J (entry e.by e.moment d)) is (may_follow i e s b)))

-- no member joins or leaves
pub kept_same : (i : Indexed) (e : Entry) (s : StateSnapshot) (b : IsKeptBefore i e s)
    → ((p a : ℕ) (u : Addresses) → e.deed ≡ Join p a u → ⊥) → ((p : ℕ) → e.deed ≡ Leave p → ⊥) → IsKept i s
kept_same i e s b no_join no_leave = keeping i i e s b refl (λ other. subst (IsListed i other)
    (sym (still e.deed no_join no_leave other)) (b.kept J h other))
  where
    J : History
    J = b.follows.history

    h : StandsFor b.before b.follows.history
    h = b.follows.stands

    still : (d : Deed) → ((p a : ℕ) (u : Addresses) → d ≡ Join p a u → ⊥) → ((p : ℕ) → d ≡ Leave p → ⊥) → (other : ℕ)
        → staying_with i.key other (J ++ entry e.by e.moment d ∷ []) ≡ staying_with i.key other J
    still (Join p a u) x y other = absurd (x p a u refl)
    still (Leave p) x y other = absurd (y p refl)
    still d x y other = staying_still J e.by e.moment d i.key other refl (λ p. refl)

-- ---- what is found of one

found_row : (b : Bool) (r x : MemberRow) → Some x ≡ cond b (Some r) None → x ≡ r
found_row true r x h = cc
found_row false r x h = absurd cc

pub row_action : (J : History) (p : ℕ) (row : MemberRow) → Some row ≡ found_member J p → row.action ≡ action_of J p
row_action J p row h = ap (λ (r : MemberRow). r.action) (found_row (is_among (members J) p) _ row h)

found_text : (b : Bool) (u x : Addresses) → Some x ≡ cond b (Some u) None → x ≡ u
found_text true u x h = cc
found_text false u x h = absurd cc

pub row_addresses : (J : History) (p : ℕ) (u : Addresses) → Some u ≡ found_addresses J p → u ≡ addresses_of J p
row_addresses J p u h = found_text (is_among (members J) p) (addresses_of J p) u h

-- one that is there is found
pub not_missing : {X : Type 0} (b : Bool) (x : X) → b ≡ true → None ≡ cond b (Some x) None → ⊥
not_missing true x e h = cc
not_missing false x e h = cc
