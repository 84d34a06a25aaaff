-- What a tick finds of all watches, one after another.
use Rattle.std.proofs.Common.{◌≡◌, ◌≢◌, inl, inr, ℕ, zero, suc, ◌+◌, get_or, ◌<◌, List, [], ◌∷◌, ◌++◌, length, take, drop, map, Bool, true, false, ◌||◌, refl, sym, ap, subst, ◌∙◌, arith, append_assoc, append-nil}
use Rattle.std.specs.Prelude.{slice_get, IsSomeAnd, Some}
use Rattle.std.specs.List.{list_any}
use Rattle.std.proofs.lemmas.List.{map-append}
use Rattle.std.proofs.lemmas.Option.{slice_get_within, same_Some}
use Rattle.itpg_base.specs.Graphs.{Graph}
use Rattle.itpg_base.specs.Lists.{Among, Ordered}
use Rattle.standing_queries.specs.Watches.{Watch}
use Rattle.itpg_session.specs.declared.ticking.Ticked.{Ticked as TickedValue}
use Rattle.itpg_session.specs.PlainWatches.{PlainWatch, NamesDiffer, plain, all_plain}
use Rattle.itpg_session.specs.Ticks.{Ticked, ticked_of, StaysWide, Moves, IsTicked, AreTicked, some_wide, settled, settled_at, all_settled, moved, all_moved}
use Rattle.itpg_session.specs.Watching.{IsMoveOfKind, AreMovesOfKind}
use Rattle.row_printer.specs.declared.form.Form.{Form}
use Rattle.reply_text.specs.Texts.{tick_wide_text, tick_head_text}
use Rattle.itpg_session.specs.Texts.{ticked_text, tick_text}
use Rattle.itpg_session.specs.Steps.{Sees}
use Rattle.itpg_session.specs.declared.reply.Seen.TheVariants.{Quiet, Answered, Refused}
use Rattle.itpg_session.proofs.Plain.{said_plain}
use Rattle.itpg_session.proofs.Told.{sees_quiet, sees_answered, sees_refused}

-- ---- finding

pub ticked_more : (g : Graph) (limit : ℕ) (ws : List PlainWatch) (i : ℕ) (xs : List Ticked) (x : Ticked) → AreTicked g limit (take i ws) xs → IsSomeAnd (slice_get ws i) (λ w. IsTicked g limit w x) → AreTicked g limit (take (suc i) ws) (xs ++ x ∷ [])
ticked_more g limit [] i xs x a h = absurd h
ticked_more g limit (w ∷ ws) zero [] x a h = (h, tt)
ticked_more g limit (w ∷ ws) zero (y ∷ ys) x a h = absurd a
ticked_more g limit (w ∷ ws) (suc i) [] x a h = absurd a
ticked_more g limit (w ∷ ws) (suc i) (y ∷ ys) x a h = (a.0, ticked_more g limit ws i ys x a.1 h)

pub ticked_length : (g : Graph) (limit : ℕ) (ws : List PlainWatch) (xs : List Ticked) → AreTicked g limit ws xs → length xs ≡ length ws
ticked_length g limit [] [] a = refl
ticked_length g limit [] (x ∷ xs) a = absurd a
ticked_length g limit (w ∷ ws) [] a = absurd a
ticked_length g limit (w ∷ ws) (x ∷ xs) a = ap suc (ticked_length g limit ws xs a.1)

pub tick_step : (g : Graph) (limit : ℕ) (ws : List Watch) (i : ℕ) (items new : List TickedValue) (x : TickedValue) → AreTicked g limit (take i (all_plain ws)) (map ticked_of items)
    → IsSomeAnd (slice_get ws i) (λ w. IsTicked g limit (plain w) (ticked_of x)) → new ≡ items ++ x ∷ [] → AreTicked g limit (take (i + 1) (all_plain ws)) (map ticked_of new)
tick_step g limit ws i items new x are is e =
    let next : suc i ≡ i + 1 = omega arith in
    let more = ticked_more g limit (all_plain ws) i (map ticked_of items) (ticked_of x) are (said_plain (λ w. IsTicked g limit w (ticked_of x)) ws i is) in
    subst (λ (xs : List TickedValue). AreTicked g limit (take (i + 1) (all_plain ws)) (map ticked_of xs)) (sym e)
    (subst (λ (ys : List Ticked). AreTicked g limit (take (i + 1) (all_plain ws)) ys) (sym (map-append ticked_of items (x ∷ [])))
    (subst (λ (k : ℕ). AreTicked g limit (take k (all_plain ws)) (map ticked_of items ++ ticked_of x ∷ [])) next more))

-- ---- places

pub take_whole : {X : Type 0} (xs : List X) → take (length xs) xs ≡ xs
take_whole [] = refl
take_whole {X} (x ∷ xs) = ap (λ (ys : List X). x ∷ ys) (take_whole xs)

pub map_length : {X Y : Type 0} (f : X → Y) (xs : List X) → length (map f xs) ≡ length xs
map_length f [] = refl
map_length f (x ∷ xs) = ap suc (map_length f xs)

pub map_among : {X Y : Type 0} (f : X → Y) (xs : List X) (i : ℕ) (d : X) → i < length xs → Among (map f xs) (f (get_or xs i d))
map_among f [] i d few = absurd (omega (arith, few))
map_among f (x ∷ xs) zero d few = inl refl
map_among f (x ∷ xs) (suc i) d few = inr (map_among f xs i d (omega (arith, few)))

pub map_at : {X Y : Type 0} (f : X → Y) (xs : List X) (i : ℕ) (d : X) → i < length xs → slice_get (map f xs) i ≡ Some (f (get_or xs i d))
map_at f [] i d few = absurd (omega (arith, few))
map_at f (x ∷ xs) zero d few = refl
map_at f (x ∷ xs) (suc i) d few = map_at f xs i d (omega (arith, few))

-- ---- writing

pub text_more : (form : Form) (g : Graph) (xs : List Ticked) (i : ℕ) (x : Ticked) → slice_get xs i ≡ Some x → tick_text form g (take (suc i) xs) ≡ tick_text form g (take i xs) ++ ticked_text form g x
text_more form g [] i x b = absurd (let nothing : ⊥ = cc in nothing)
text_more form g (y ∷ ys) zero x b = append-nil (ticked_text form g y) ∙ ap (ticked_text form g) (same_Some _ _ b)
text_more form g (y ∷ ys) (suc i) x b = ap (λ t. ticked_text form g y ++ t) (text_more form g ys i x b) ∙ sym (append_assoc (ticked_text form g y) (tick_text form g (take i ys)) (ticked_text form g x))

pub text_split : (form : Form) (g : Graph) (xs : List Ticked) (i : ℕ) (x : Ticked) → slice_get xs i ≡ Some x → tick_text form g xs ≡ tick_text form g (take i xs) ++ (ticked_text form g x ++ tick_text form g (drop (suc i) xs))
text_split form g [] i x b = absurd (let nothing : ⊥ = cc in nothing)
text_split form g (y ∷ ys) zero x b = ap (λ (o : Ticked). ticked_text form g o ++ tick_text form g ys) (same_Some _ _ b)
text_split form g (y ∷ ys) (suc i) x b =
    ap (λ t. ticked_text form g y ++ t) (text_split form g ys i x b) ∙ sym (append_assoc (ticked_text form g y) (tick_text form g (take i ys)) (ticked_text form g x ++ tick_text form g (drop (suc i) ys)))

-- ---- moving

pub settled_length : (ws : List Watch) (xs : List Ticked) → length (all_settled ws xs) ≡ length ws
settled_length [] xs = refl
settled_length (w ∷ ws) [] = refl
settled_length (w ∷ ws) (x ∷ xs) = ap suc (settled_length ws xs)

-- the watches of which those from a place on are moved
abbrev pub moved_from : ℕ → List Watch → List Ticked → List Watch
moved_from zero ws xs = all_settled ws xs
moved_from (suc k) [] xs = []
moved_from (suc k) (w ∷ ws) [] = w ∷ ws
moved_from (suc k) (w ∷ ws) (x ∷ xs) = w ∷ moved_from k ws xs

pub none_moved : (ws : List Watch) (xs : List Ticked) → length xs ≡ length ws → moved_from (length xs) ws xs ≡ ws
none_moved [] [] e = refl
none_moved [] (x ∷ xs) e = refl
none_moved (w ∷ ws) [] e = refl
none_moved (w ∷ ws) (x ∷ xs) e = ap (λ (vs : List Watch). w ∷ vs) (none_moved ws xs (omega (arith, e)))

pub from_length : (k : ℕ) (ws : List Watch) (xs : List Ticked) → length (moved_from k ws xs) ≡ length ws
from_length zero ws xs = settled_length ws xs
from_length (suc k) [] xs = refl
from_length (suc k) (w ∷ ws) [] = refl
from_length (suc k) (w ∷ ws) (x ∷ xs) = ap suc (from_length k ws xs)

-- what stands before the place isn't moved yet
pub from_at : (k : ℕ) (ws : List Watch) (xs : List Ticked) → slice_get (moved_from (suc k) ws xs) k ≡ slice_get ws k
from_at k [] xs = refl
from_at zero (w ∷ ws) [] = refl
from_at zero (w ∷ ws) (x ∷ xs) = refl
from_at (suc k) (w ∷ ws) [] = refl
from_at (suc k) (w ∷ ws) (x ∷ xs) = from_at k ws xs

-- the one before them moves too
pub from_one : (k : ℕ) (ws : List Watch) (xs : List Ticked) (x : Ticked) → slice_get xs k ≡ Some x → settled_at k x (moved_from (suc k) ws xs) ≡ moved_from k ws xs
from_one zero [] xs x is = refl
from_one (suc k) [] xs x is = refl
from_one k (w ∷ ws) [] x is = absurd (let nothing : ⊥ = cc in nothing)
from_one zero (w ∷ ws) (y ∷ ys) x is = ap (λ (z : Ticked). settled w z ∷ all_settled ws ys) (sym (same_Some _ _ is))
from_one (suc k) (w ∷ ws) (y ∷ ys) x is = ap (λ (vs : List Watch). w ∷ vs) (from_one k ws ys x is)

pub kind_at : (ws : List Watch) (xs : List Ticked) (i : ℕ) (x : Ticked) → AreMovesOfKind ws xs → slice_get xs i ≡ Some x → i < length ws → IsSomeAnd (slice_get ws i) (λ w. IsMoveOfKind w x)
kind_at [] xs i x a is few = absurd (omega (arith, few))
kind_at (w ∷ ws) [] i x a is few = absurd (let nothing : ⊥ = cc in nothing)
kind_at (w ∷ ws) (y ∷ ys) zero x a is few = subst (λ (z : Ticked). IsMoveOfKind w z) (same_Some _ _ is) a.0
kind_at (w ∷ ws) (y ∷ ys) (suc i) x a is few = kind_at ws ys i x a.1 is (omega (arith, few))

-- the last of the front of a list
taken_last : {X : Type 0} (n : ℕ) (xs ys : List X) (x : X) → take n xs ≡ ys ++ x ∷ [] → (take (length ys) xs ≡ ys) × (slice_get xs (length ys) ≡ Some x)
taken_last zero xs [] x e = absurd (let differ : ⊥ = cc in differ)
taken_last zero xs (y ∷ ys) x e = absurd (let differ : ⊥ = cc in differ)
taken_last (suc n) [] [] x e = absurd (let differ : ⊥ = cc in differ)
taken_last (suc n) [] (y ∷ ys) x e = absurd (let differ : ⊥ = cc in differ)
taken_last (suc n) (a ∷ rest) [] x e = (refl, cc)
taken_last {X} (suc n) (a ∷ rest) (y ∷ ys) x e =
    let first : a ≡ y = cc in
    let more : take n rest ≡ ys ++ x ∷ [] = cc in
    let r = taken_last n rest ys x more in
    (ap (λ (b : X). b ∷ take (length ys) rest) first ∙ ap (λ (bs : List X). y ∷ bs) r.0, r.1)

-- the base of the watch that the last of the front was found of moves, and so those from its place on are moved
pub record MovesLast (ws now : List Watch) (xs ys : List Ticked) (x : Ticked) : Type 0 where
  pub there : length ys < length now
  pub kind : IsSomeAnd (slice_get now (length ys)) (λ w. IsMoveOfKind w x)
  pub left : take (length ys) xs ≡ ys
  pub moved : settled_at (length ys) x now ≡ moved_from (length ys) ws xs

pub moves_last : (ws now : List Watch) (xs ys : List Ticked) (x : Ticked) (n : ℕ) → length xs ≡ length ws → AreMovesOfKind ws xs → take n xs ≡ ys ++ x ∷ [] → n ≡ suc (length ys) → now ≡ moved_from n ws xs → MovesLast ws now xs ys x
moves_last ws now xs ys x n same kinds front is moved =
    let last = taken_last n xs ys x front in
    let few : length ys < length xs = slice_get_within xs (length ys) x last.1 in
    let here : now ≡ moved_from (suc (length ys)) ws xs = moved ∙ ap (λ (k : ℕ). moved_from k ws xs) is in
    let all : length now ≡ length ws = ap length here ∙ from_length (suc (length ys)) ws xs in
    record {
      there = omega (arith, few, all, same);
      kind = subst (λ o. IsSomeAnd o (λ w. IsMoveOfKind w x)) (sym (ap (λ (vs : List Watch). slice_get vs (length ys)) here ∙ from_at (length ys) ws xs)) (kind_at ws xs (length ys) x kinds last.1 (omega (arith, few, same)));
      left = last.0;
      moved = ap (settled_at (length ys) x) here ∙ from_one (length ys) ws xs x last.1;
    }

-- ---- the machine's watches

-- a watch after the tick has the name and the query that it had before
pub among_moved : (ws : List PlainWatch) (xs : List Ticked) (w : PlainWatch) → Among (all_moved ws xs) w → (v : PlainWatch) × Among ws v × (v.name ≡ w.name) × (v.query ≡ w.query)
among_moved [] xs w a = absurd a
among_moved (v ∷ ws) [] w a = (w, a, refl, refl)
among_moved (v ∷ ws) (StaysWide name ∷ xs) w (inl e) = (v, inl refl, ap (λ (u : PlainWatch). u.name) e, ap (λ (u : PlainWatch). u.query) e)
among_moved (v ∷ ws) (Moves name now gained lost ∷ xs) w (inl e) = (v, inl refl, ap (λ (u : PlainWatch). u.name) e, ap (λ (u : PlainWatch). u.query) e)
among_moved (v ∷ ws) (x ∷ xs) w (inr a) = let r = among_moved ws xs w a in (r.0, inr r.1, r.2, r.3)

same_name : (w : PlainWatch) (x : Ticked) → (moved w x).name ≡ w.name
same_name w (StaysWide name) = refl
same_name w (Moves name now gained lost) = refl

pub differ_moved : (ws : List PlainWatch) (xs : List Ticked) → Ordered NamesDiffer ws → Ordered NamesDiffer (all_moved ws xs)
differ_moved [] xs d = tt
differ_moved (w ∷ ws) [] d = d
differ_moved (w ∷ ws) (x ∷ xs) d = (
  λ y a e. let v = among_moved ws xs y a in d.0 v.0 v.1 (sym (same_name w x) ∙ e ∙ sym v.2),
  differ_moved ws xs d.1,
)

-- ---- what is seen of a tick

one_text : (form : Form) (g : Graph) (x : Ticked) (more : List ℕ) → ticked_text form g x ++ more ≢ []
unfolding tick_wide_text tick_head_text
one_text Form.Plain g (StaysWide name) more e = cc
one_text Form.Plain g (Moves name now gained lost) more e = cc
one_text Form.Json g (StaysWide name) more e = cc
one_text Form.Json g (Moves name now gained lost) more e = cc

pub seen_quiet : (form : Form) (g : Graph) (xs : List Ticked) → length xs ≡ 0 → Sees Quiet (tick_text form g xs) (some_wide xs)
seen_quiet form g [] none = sees_quiet
seen_quiet form g (x ∷ xs) none = absurd (omega (arith, none))

pub seen_refused : (form : Form) (g : Graph) (xs : List Ticked) → some_wide xs ≡ true → Sees Refused (tick_text form g xs) (some_wide xs)
seen_refused form g [] wide = absurd (let no_wide : ⊥ = cc in no_wide)
seen_refused form g (x ∷ xs) wide = subst (λ (b : Bool). Sees Refused (tick_text form g (x ∷ xs)) b) (sym wide) (sees_refused _ (one_text form g x (tick_text form g xs)))

pub seen_answered : (form : Form) (g : Graph) (xs : List Ticked) → length xs ≢ 0 → some_wide xs ≡ false → Sees Answered (tick_text form g xs) (some_wide xs)
seen_answered form g [] some fits = absurd (some refl)
seen_answered form g (x ∷ xs) some fits = subst (λ (b : Bool). Sees Answered (tick_text form g (x ∷ xs)) b) (sym fits) (sees_answered _ (one_text form g x (tick_text form g xs)))

-- ---- whether some is too wide

pub any_of : {X Y : Type 0} (test : Y → Bool) (f : X → Y) (xs : List X) → list_any test (map f xs) ≡ list_any (λ x. test (f x)) xs
any_of test f [] = refl
any_of test f (x ∷ xs) = ap (λ b. test (f x) || b) (any_of test f xs)

pub none_left : (n : ℕ) → (0 < n → false ≡ true) → n ≡ 0
none_left zero h = refl
none_left (suc n) h = absurd (let e = h (omega arith) in let differ : ⊥ = cc in differ)
