-- The snapshot of a history after one more entry that is allowed.
use Rattle.std.proofs.Common.{◌≡◌, ℕ, Bool, true, List, [], ◌∷◌, ◌++◌, map, Option, refl, sym, ap, ◌∙◌, length-append}
use Rattle.std.specs.Option.{option_map_or}
use Rattle.lra_model.specs.declared.entry.Deed.{Deed}
use Rattle.lra_model.specs.declared.entry.Deed.TheVariants.{Join, Reply}
use Rattle.lra_model.specs.declared.entry.Entry.{Entry}
use Rattle.lra_model.specs.declared.version.Version.{Version}
use Rattle.lra_model.specs.History.{History, members}
use Rattle.lra_model.specs.Members.{Asked}
use Rattle.lra_model.specs.Rules.{is_legal, allows}
use Rattle.lra_laws.specs.Rows.{state_of, row_at, change_row, change_member, with_reply}
use Rattle.lra_laws.specs.Snapshots.{StateSnapshot, StandsFor, endpoint_of, asks_made, with_answer, contacts_after}
use Rattle.lra_laws.specs.Snapshots.{state_after}
use Rattle.lra_laws.specs.Snapshots.{snapshot_of, snapshot_after}
use Rattle.lra_laws.proofs.Legal.{Allowed, allowed, legal_more}
use Rattle.lra_laws.proofs.Told.{entry, more, Told, told, ReplyTold}
use Rattle.lra_laws.proofs.AskWords.{asks_listed, asks_stand}
use Rattle.lra_laws.proofs.StatePush.{push_by_deed, reply_at}
use Rattle.lra_laws.proofs.Nests.{nests_push}
use Rattle.lra_laws.proofs.Endpoints.{contacts_still, contacts_joined, contacts_answered}
use Rattle.lra_laws.proofs.AskList.{ask_at, asks_push_by}

-- the ask that is answered, in the list
answered_at : (v : Version) (t : List ℕ → Bool) (J : History) (n : ℕ) (x : Asked) → is_legal v t J ≡ true
    → ReplyTold J n x → {Y : Type 0} (f : Asked → Y) (y : Y) → option_map_or f (row_at (asks_made J) n) y ≡ f x
answered_at v t J n x l told f y = ap (λ (o : Option Asked). option_map_or f o y) (ask_at v t J l n ∙ told.asked)

contacts_push : (v : Version) (t : List ℕ → Bool) (J : History) (by m : ℕ) (d : Deed) → is_legal v t J ≡ true
    → Told J by d
    → map (endpoint_of (more J by m d)) (members (more J by m d)) ≡ contacts_after m (asks_made J) d
    (map (endpoint_of J) (members J))
contacts_push v t J by m (Join p a uris) l x = contacts_joined v t J by m p a uris l x.number
contacts_push v t J by m (Reply n o) l x =
    contacts_answered v t J by m n o x.0 l x.1.asked
    ∙ sym (answered_at v t J n x.0 l x.1 (λ (y : Asked). change_row (with_answer m o y) y.member
    (map (endpoint_of J) (members J))) (map (endpoint_of J) (members J)))
contacts_push v t J by m d l x = contacts_still J by m d refl refl

state_push : (v : Version) (t : List ℕ → Bool) (J : History) (by m : ℕ) (d : Deed) → is_legal v t J ≡ true
    → Allowed v t J (entry by m d) → Told J by d
    → state_of (more J by m d) ≡ state_after m (asks_made J) d (record (state_of J) { moment = m })
state_push v t J by m (Reply n o) l k x =
    reply_at v t J by m n o x.0 l k x.1 (asks_listed v t J l) (asks_stand v t J l)
    ∙ sym (answered_at v t J n x.0 l x.1 (λ (y : Asked). change_member (with_reply o) y.member
    (record (state_of J) { moment = m })) (record (state_of J) { moment = m }))
state_push v t J by m d l k x = push_by_deed v t J by m d l k x

push_allowed : (v : Version) (t : List ℕ → Bool) (J : History) (by m : ℕ) (d : Deed) → is_legal v t J ≡ true
    → Allowed v t J (entry by m d) → Told J by d → snapshot_of (more J by m d)
    ≡ snapshot_after (entry by m d) (snapshot_of J)
push_allowed v t J by m d l k x = λ i. record {
  entries = length-append J (entry by m d ∷ []) i;
  state = state_push v t J by m d l k x i;
  nestings = nests_push v t J by m d l k x i;
  endpoints = contacts_push v t J by m d l x i;
  asks = asks_push_by v t J by m d l x i;
}

-- the snapshot of a legal history, after an entry that is allowed
pub snapshot_push : (v : Version) (t : List ℕ → Bool) (J : History) (e : Entry) → is_legal v t J ≡ true → allows v t J e
    ≡ true → snapshot_of (J ++ e ∷ []) ≡ snapshot_after e (snapshot_of J)
snapshot_push v t J e l k = let a = allowed v t J e k in
    push_allowed v t J e.by e.moment e.deed l a (told v t J e.by e.moment e.deed a)

-- so it stands for the longer history
unfoldable pub StandsFor-push : (s : StateSnapshot) (J : History) (e : Entry) (h : StandsFor s J)
    → allows h.version h.is_address J e ≡ true → StandsFor (snapshot_after e s) (J ++ e ∷ [])
StandsFor-push s J e h k = record {
  version = h.version;
  is_address = h.is_address;
  legal = legal_more h.version h.is_address J e h.legal (allowed h.version h.is_address J e k);
  snapshot = ap (snapshot_after e) h.snapshot ∙ sym (snapshot_push h.version h.is_address J e h.legal k);
}
