-- Members of a flat object: the last of a name is found, and new names add to their number.
use Rattle.std.proofs.Common.{◌≡◌, ◌<◌, ◌+◌, cond, length, take, set, is_some, nat_eq, ℕ, suc, List, [], ◌∷◌, ◌++◌, Option, Some, None, option_map, Bool, true, false, reverse, Ordering, Less, Equal, Greater, nat_cmp, Bor, refl, sym, ap, ap₂, ◌∙◌, subst, arith, true≢false, inl, inr}
use Rattle.std.proofs.lemmas.List.{reverse-append, take_more_set}
use Rattle.std.proofs.lemmas.Bool.Decides.{Decides-eqb}
use Rattle.std.proofs.lemmas.Slice.Eq.{slice_eq-Decides}
use Rattle.std.specs.List.{find}
use Rattle.std.specs.Cmp.Lexicographic.{pointwise, slice_cmp}
use Rattle.std.specs.Ordering.{match_ordering}
use Rattle.serde_json.specs.Data.{Data, Members, no_members, member, put}
use Rattle.serde_json.specs.Find.{get_member}
use Rattle.serde_json.specs.Events.{members_len}
use Rattle.serde_json.proofs.Views.{get_member-put, get_member-put_other}
use Rattle.json_port.specs.declared.member.Member.{Member}
use Rattle.json_port.specs.declared.member.Part.{Part}
use Rattle.json_port.specs.declared.names.Names.{Names}
use Rattle.json_port.specs.Keys.{key_word}
use Rattle.json_port.specs.Flats.{listed, part_data, member_data, latest, members_of, part_lexemes, member_lexemes, IsScalar, AreScalars, IsListedOnce}
use Rattle.json.specs.Token.{begin_object, string}
use Rattle.json.specs.Lex.{Lexeme, token, comma, colon}
use Rattle.std.specs.List.{flat_map}
use Rattle.json_port.proofs.FlatTokens.{with_comma, Begun}

pub data_of_ref : (names : List (List ℕ)) (r : Option (Bor Member)) → option_map (λ m. member_data names m.now) r ≡ option_map (member_data names) (option_map (λ m. m.now) r)
data_of_ref names None = refl
data_of_ref names (Some m) = refl

found_at : (names : List (List ℕ)) (key : List ℕ) (m : Member) (ms : List Member) (b : Bool) → pointwise nat_eq (key_word m.key) key ≡ b
    → option_map (member_data names) (find (λ n. pointwise nat_eq (key_word n.key) key) ms) ≡ get_member key (latest names ms)
    → option_map (member_data names) (cond b (Some m) (find (λ n. pointwise nat_eq (key_word n.key) key) ms)) ≡ get_member key (latest names (m ∷ ms))
found_at names key m ms true is later =
    let same : key_word m.key ≡ key = (slice_eq-Decides Decides-eqb (key_word m.key) key true (sym is)).0 refl in
    sym (ap (λ k. get_member key (put k (member_data names m) (latest names ms))) same ∙ get_member-put key (member_data names m) (latest names ms))
found_at names key m ms false is later =
    later ∙ sym (get_member-put_other key (key_word m.key) (member_data names m) (latest names ms) (λ e. true≢false (sym ((slice_eq-Decides Decides-eqb (key_word m.key) key false (sym is)).1 (sym e)))))

-- the first of the newest
pub find_latest : (names : List (List ℕ)) (key : List ℕ) (ms : List Member) → option_map (member_data names) (find (λ m. pointwise nat_eq (key_word m.key) key) ms) ≡ get_member key (latest names ms)
find_latest names key [] = refl
find_latest names key (m ∷ ms) = found_at names key m ms (pointwise nat_eq (key_word m.key) key) refl (find_latest names key ms)

abbrev is_there : Option Data → Bool
is_there None = false
is_there (Some d) = true

one_more_at : (o : Ordering) (k l : List ℕ) (d e : Data) (ms : Members) → match_ordering o (get_member k ms) (Some e) (get_member k ms) ≡ None → (get_member k ms ≡ None → members_len (put k d ms) ≡ suc (members_len ms))
    → members_len (match_ordering o (member k d (member l e ms)) (member l d ms) (member l e (put k d ms))) ≡ suc (members_len (member l e ms))
one_more_at Less k l d e ms new later = refl
one_more_at Equal k l d e ms new later = absurd (true≢false (ap is_there new))
one_more_at Greater k l d e ms new later = ap suc (later new)

-- a new name adds a member
pub one_more_member : (k : List ℕ) (d : Data) (ms : Members) → get_member k ms ≡ None → members_len (put k d ms) ≡ suc (members_len ms)
one_more_member k d no_members new = refl
one_more_member k d (member l e ms) new = one_more_at (slice_cmp nat_cmp k l) k l d e ms new (one_more_member k d ms)

no_part : (names : List (List ℕ)) (o : Option (Bor Member)) (d : Option Data) → option_map (λ m. member_data names m.now) o ≡ d → is_some o ≡ false → d ≡ None
no_part names None d is h = sym is
no_part names (Some m) d is h = absurd (true≢false h)

pub counted_push : (names : List (List ℕ)) (items : List Member) (i : ℕ) (m : Member) (found : Option (Bor Member)) → i < length items
    → option_map (λ m. member_data names m.now) found ≡ get_member (key_word m.key) (members_of names (take i items)) → is_some found ≡ false
    → members_len (members_of names (take i items)) ≡ i → members_len (members_of names (take (i + 1) (set items i m))) ≡ i + 1
counted_push names items i m found h is new counted =
    ap (λ ms. members_len (members_of names ms)) (take_more_set items i m h) ∙ ap (λ ms. members_len (latest names ms)) (reverse-append (take i items) (m ∷ []))
    ∙ one_more_member (key_word m.key) (member_data names m) (members_of names (take i items)) (no_part names found _ is new) ∙ omega (arith, counted)

-- ---- texts that are listed once

scalars_joined : (ms ns : List Member) → AreScalars ms → AreScalars ns → AreScalars (ms ++ ns)
scalars_joined [] ns a b = b
scalars_joined (m ∷ ms) ns a b = (a.0, scalars_joined ms ns a.1 b)

scalars_reversed : (ms : List Member) → AreScalars ms → AreScalars (reverse ms)
scalars_reversed [] a = tt
scalars_reversed (m ∷ ms) a = subst AreScalars (sym (reverse-append (m ∷ []) ms)) (scalars_joined (reverse ms) (m ∷ []) (scalars_reversed ms a.1) (a.0, tt))

scalar_data : (names more : List (List ℕ)) (part : Part) → IsScalar part → part_data names part ≡ part_data more part
scalar_data names more (Part.Text s) h = refl
scalar_data names more (Part.Number n) h = refl
scalar_data names more Part.Names h = absurd h

scalar_lexemes : (names more : List (List ℕ)) (part : Part) → IsScalar part → part_lexemes names part ≡ part_lexemes more part
scalar_lexemes names more (Part.Text s) h = refl
scalar_lexemes names more (Part.Number n) h = refl
scalar_lexemes names more Part.Names h = absurd h

latest_kept : (names more : List (List ℕ)) (ms : List Member) → AreScalars ms → latest names ms ≡ latest more ms
latest_kept names more [] h = refl
latest_kept names more (m ∷ ms) h = ap₂ (λ d l. put (key_word m.key) d l) (scalar_data names more m.part h.0) (latest_kept names more ms h.1)

lexemes_kept : (names more : List (List ℕ)) (ms : List Member) → AreScalars ms → flat_map (with_comma (member_lexemes names)) ms ≡ flat_map (with_comma (member_lexemes more)) ms
lexemes_kept names more [] h = refl
lexemes_kept names more (m ∷ ms) h =
    ap₂ (λ p l. ((token (string (key_word m.key)) ∷ colon ∷ p) ++ comma ∷ []) ++ l) (scalar_lexemes names more m.part h.0) (lexemes_kept names more ms h.1)

-- the members that were read before are the same with what is listed now
pub members_kept : (before after : Names) (part : Part) (ms : List Member) → IsListedOnce before after part → (before.len ≡ 0 → AreScalars ms) → members_of (listed before) ms ≡ members_of (listed after) ms
members_kept before after part ms (inl same) h = ap (λ n. members_of (listed n) ms) (sym same.0)
members_kept before after part ms (inr first) h = latest_kept (listed before) (listed after) (reverse ms) (scalars_reversed ms (h first.0))

pub begun_kept : (before after : Names) (part : Part) (whole rest : List Lexeme) (ms : List Member) → IsListedOnce before after part → (before.len ≡ 0 → AreScalars ms)
    → Begun (member_lexemes (listed before)) (token begin_object) whole ms rest → Begun (member_lexemes (listed after)) (token begin_object) whole ms rest
begun_kept before after part whole rest ms (inl same) h begun = subst (λ n. Begun (member_lexemes (listed n)) (token begin_object) whole ms rest) (sym same.0) begun
begun_kept before after part whole rest ms (inr first) h begun = begun ∙ ap (λ l. token begin_object ∷ (l ++ rest)) (lexemes_kept (listed before) (listed after) ms (h first.0))

pub scalars_push : (before after : Names) (items : List Member) (i : ℕ) (m : Member) → i < length items → IsListedOnce before after m.part → (before.len ≡ 0 → AreScalars (take i items)) → after.len ≡ 0
    → AreScalars (take (i + 1) (set items i m))
scalars_push before after items i m h (inl same) scalars none =
    subst AreScalars (sym (take_more_set items i m h)) (scalars_joined (take i items) (m ∷ []) (scalars (ap (λ n. n.len) (sym same.0) ∙ none)) (same.1, tt))
scalars_push before after items i m h (inr first) scalars none = absurd (omega (arith, first.1, none))
