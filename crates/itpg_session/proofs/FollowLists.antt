-- Lists of follows: those that the session has, and those that the plain machine has of them.
use Rattle.std.proofs.Common.{◌≡◌, ℕ, zero, suc, List, [], ◌∷◌, ◌++◌, length, Some, refl, ◌∙◌, ap}
use Rattle.std.specs.Prelude.{nat_eq, slice_get}
use Rattle.std.specs.List.{AllZip}
use Rattle.std.specs.Cmp.Lexicographic.{pointwise}
use Rattle.std.proofs.lemmas.List.{map-append}
use Rattle.itpg_base.specs.Words.{Word}
use Rattle.itpg_base.specs.Graphs.{Graph}
use Rattle.itpg_edit.specs.declared.edit.Edit.{Edit}
use Rattle.source_rows.specs.Follows.{Follow, Entry, with_entry, IsFollowed as IsFollowedThere, without as without_there}
use Rattle.itpg_session.specs.PlainFollows.{PlainFollow, plain_follow, plain_follows, IsFollowed, without_follow}
use Rattle.itpg_session.specs.Following.{IsSpared}
use Rattle.itpg_session.proofs.NamedLists.{map_length, map_choice, map_at, map_among, among_map}

-- ---- the same changes lead to a list of the machine's follows from either

pub follows_append : (xs ys : List Follow) → plain_follows (xs ++ ys) ≡ plain_follows xs ++ plain_follows ys
follows_append xs ys = map-append plain_follow xs ys

pub follows_length : (xs : List Follow) → length (plain_follows xs) ≡ length xs
follows_length xs = map_length plain_follow xs

pub follows_without : (name : Word) (xs : List Follow) → plain_follows (without_there name xs) ≡ without_follow name (plain_follows xs)
follows_without name [] = refl
follows_without name (x ∷ xs) = map_choice plain_follow (pointwise nat_eq x.name name) x (without_there name xs) (without_follow name (plain_follows xs)) (follows_without name xs)

-- the rows that are kept are nothing of the machine
pub follows_entered : (xs : List Follow) (i : ℕ) (e : Entry) → plain_follows (with_entry i e xs) ≡ plain_follows xs
follows_entered [] i e = refl
follows_entered (x ∷ xs) zero e = refl
follows_entered (x ∷ xs) (suc i) e = ap (λ (vs : List PlainFollow). plain_follow x ∷ vs) (follows_entered xs i e)

pub follows_spared : (g : Graph) (edit : Edit) (old new : List Follow) → AllZip (IsSpared g edit) old new → plain_follows new ≡ plain_follows old
follows_spared g edit [] [] h = refl
follows_spared g edit [] (y ∷ new) h = absurd h
follows_spared g edit (x ∷ old) [] h = absurd h
follows_spared g edit (x ∷ old) (y ∷ new) h =
    ap (λ (name : Word). record { name = name; query = y.query } ∷ plain_follows new) h.0.name ∙ ap (λ q. record { name = x.name; query = q } ∷ plain_follows new) h.0.query
    ∙ ap (λ (vs : List PlainFollow). plain_follow x ∷ vs) (follows_spared g edit old new h.1)

-- ---- what stands at a place, and names

pub follow_at : (xs : List Follow) (i : ℕ) (x : Follow) → slice_get xs i ≡ Some x → slice_get (plain_follows xs) i ≡ Some (plain_follow x)
follow_at xs i x e = map_at plain_follow xs i x e

pub there_followed : (xs : List Follow) (name : Word) → IsFollowedThere xs name → IsFollowed (plain_follows xs) name
there_followed xs name (x, a, e) = (plain_follow x, map_among plain_follow xs x a, e)

pub followed_there : (xs : List Follow) (name : Word) → IsFollowed (plain_follows xs) name → IsFollowedThere xs name
followed_there xs name (p, a, e) = let r = among_map plain_follow xs p a in (r.0, r.1, ap (λ (q : PlainFollow). q.name) r.2 ∙ e)
