-- The listing by the rows is that of the history.
use Rattle.std.proofs.Common.{◌≡◌, ℕ, zero, suc, ◌+◌, Bool, true, List, [], ◌∷◌, length, map, Option, Some, option_map}
use Rattle.std.proofs.Common.{refl, ap, ◌∙◌, sym, arith}
use Rattle.std.specs.Prelude.{slice_get}
use Rattle.std.specs.List.{range_with_len}
use Rattle.lra_model.specs.declared.version.Version.{Version}
use Rattle.lra_model.specs.History.{History, actions, members}
use Rattle.lra_model.specs.Rules.{is_legal}
use Rattle.lra_laws.proofs.Legal.{IsNumbered, actions_numbered, members_numbered}
use Rattle.lra_laws.specs.Rows.{ActionRow}
use Rattle.lra_laws.specs.Rows.{MemberRow}
use Rattle.lra_laws.specs.Rows.{State, action_row, member_row, state_of}
use Rattle.lra_laws.specs.Rows.{row_at}
use Rattle.lra_course.specs.Listed.{Listed}
use Rattle.lra_course.specs.ListedRows.{listed_from, action_listed, member_listed, listed_by}
use Rattle.lra_course.specs.Listings.{listing}

-- ---- what is listed of numbered rows

range_listed : {R L : Type 0} (f : ℕ → R → L) (g : ℕ → R) (a n : ℕ) → listed_from f a (map g (range_with_len a n))
    ≡ map (λ k. f k (g k)) (range_with_len a n)
range_listed f g a zero = refl
range_listed {L = L} f g a (suc n) = ap (λ (ls : List L). f a (g a) ∷ ls) (range_listed f g (a + 1) n)

numbered_listed : {R L : Type 0} (f : ℕ → R → L) (g : ℕ → R) (ns : List ℕ) → IsNumbered ns → listed_from f 1 (map g ns)
    ≡ map (λ k. f k (g k)) ns
numbered_listed f g ns h =
    ap (λ (ms : List ℕ). listed_from f 1 (map g ms)) h
    ∙ range_listed f g 1 (length ns)
    ∙ ap (map (λ k. f k (g k))) (sym h)

pub listing_agree : (v : Version) (t : List ℕ → Bool) (J : History) → is_legal v t J ≡ true → listed_by (state_of J)
    ≡ listing J
unfolding listing
listing_agree v t J l = λ i. record {
  actions = numbered_listed action_listed (action_row J) (actions J) (actions_numbered v t J l) i;
  members = numbered_listed member_listed (member_row J) (members J) (members_numbered v t J l) i;
}

-- ---- what is listed of one number

get_listed : {R L : Type 0} (f : ℕ → R → L) (a k n : ℕ) (rows : List R) → n ≡ a + k → slice_get (listed_from f a rows) k
    ≡ option_map (f n) (slice_get rows k)
get_listed f a k n [] e = refl
get_listed {L = L} f a zero n (r ∷ rows) e = ap (λ (m : ℕ). some (f m r)) (let here : a ≡ n = omega arith in here)
  where
    some : L → Option L
    some l = Some l
get_listed f a (suc k) n (r ∷ rows) e = get_listed f (a + 1) k n rows (omega arith)

row_listed : {R L : Type 0} (f : ℕ → R → L) (n : ℕ) (rows : List R) → option_map (f n) (row_at rows n)
    ≡ row_at (listed_from f 1 rows) n
row_listed f zero rows = refl
row_listed f (suc k) rows = sym (get_listed f 1 k (suc k) rows (omega arith))

length-listed : {R L : Type 0} (f : ℕ → R → L) (n : ℕ) (rows : List R) → length rows ≡ length (listed_from f n rows)
length-listed f n [] = refl
length-listed f n (r ∷ rows) = ap suc (length-listed f (n + 1) rows)

-- ---- what is read of the rows of a listing

pub action_count-listed : (s : State) (l : Listed) → listed_by s ≡ l → length s.actions ≡ length l.actions
action_count-listed s l same = length-listed action_listed 1 s.actions ∙ ap (λ (x : Listed). length x.actions) same

pub member_count-listed : (s : State) (l : Listed) → listed_by s ≡ l → length s.members ≡ length l.members
member_count-listed s l same = length-listed member_listed 1 s.members ∙ ap (λ (x : Listed). length x.members) same

pub action-listed : (s : State) (l : Listed) (n : ℕ) (o : Option ActionRow) → listed_by s ≡ l → row_at s.actions n ≡ o
    → option_map (action_listed n) o ≡ row_at l.actions n
action-listed s l n o same is = ap (option_map (action_listed n)) (sym is) ∙ row_listed action_listed n s.actions
    ∙ ap (λ (x : Listed). row_at x.actions n) same

pub member-listed : (s : State) (l : Listed) (n : ℕ) (o : Option MemberRow) → listed_by s ≡ l → row_at s.members n ≡ o
    → option_map (member_listed n) o ≡ row_at l.members n
member-listed s l n o same is = ap (option_map (member_listed n)) (sym is) ∙ row_listed member_listed n s.members
    ∙ ap (λ (x : Listed). row_at x.members n) same
