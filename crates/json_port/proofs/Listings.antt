-- Items that are names.
use Rattle.std.proofs.Common.{◌≡◌, ℕ, suc, ◌<◌, ◌≤◌, ◌+◌, List, [], ◌∷◌, ◌++◌, length, map, take, get_or, set, Bool, true, false, ◌&&◌, ◌==◌, Bor, Option, Some, None, is_some, option_map, option_and_then, unwrap_or, if◌then◌else◌, Result, Ok, Err, refl, sym, ap, ap₂, ◌∙◌, subst, arith, true≢false}
use Rattle.std.specs.Prelude.{IsTrue, IsFalse, MatchResult}
use Rattle.std.specs.Option.{ok_or}
use Rattle.std.specs.List.{list_all}
use Rattle.std.proofs.lemmas.Bool.{le-leb, and_parts}
use Rattle.std.proofs.lemmas.List.{take_more_set, take_more, take_all, get_or-map, length-map, length-set, length-take}
use Rattle.std.proofs.lemmas.List.Folds.{list_all_at, list_all-map}
use Rattle.itpg_base.specs.Words.{Word}
use Rattle.itpg_base.specs.declared.text_code.TextCode.{TextCode}
use Rattle.edit_reader.specs.Labels.{set_of}
use Rattle.edit_reader.specs.Names.{is_word}
use Rattle.serde_json.specs.Data.{array, Members}
use Rattle.serde_json.specs.Find.{as_array, get_member}
use Rattle.serde_json.specs.Events.{items_len}
use Rattle.serde_json.specs.View.{view, items_view}
use Rattle.serde_json.specs.declared.value.Value.{Value}
use Rattle.json_port.specs.declared.names.Names.{Names}
use Rattle.json_port.specs.declared.member.Part.{Part}
use Rattle.json_port.specs.declared.member.Member.{Member}
use Rattle.json_port.specs.Parts.{name_of, names_in, some_and_few}
use Rattle.json_port.specs.Faults.{is_short}
use Rattle.json_port.specs.Calls.{listed_name, listed_names, words}
use Rattle.json_port.specs.Flats.{listed, texts_data, part_data, member_data}
use Rattle.json_port.proofs.FlatTokens.{more_texts}

abbrev more : Option Word → Option (List Word) → Option (List Word)
more name names = option_and_then (λ n. option_map (λ ns. n ∷ ns) names) name

with_more : (name : Option Word) (names : Option (List Word)) (all : List Word) (b : Bool) → (b ≡ true → names ≡ Some all) → (is_some name && b) ≡ true → more name names ≡ Some (unwrap_or name [] ∷ all)
with_more None names all b h e = absurd (true≢false (sym e))
with_more (Some n) names all b h e = ap (λ ns. more (Some n) ns) (h e)

-- where each item is a name, these are the names
pub all_named : (items : List Value) → list_all (λ item. is_some (name_of (view item))) items ≡ true → names_in (items_view items) ≡ Some (listed_names items)
all_named [] e = refl
all_named (item ∷ items) e = with_more (name_of (view item)) (names_in (items_view items)) (listed_names items) (list_all (λ i. is_some (name_of (view i))) items) (all_named items) e

without : (name : Option Word) (names : Option (List Word)) (b : Bool) → (b ≡ false → names ≡ None) → (is_some name && b) ≡ false → more name names ≡ None
without None names b h e = refl
without (Some n) names b h e = ap (λ ns. more (Some n) ns) (h e)

-- where some item is none, there are none
pub not_all_named : (items : List Value) → list_all (λ item. is_some (name_of (view item))) items ≡ false → names_in (items_view items) ≡ None
not_all_named [] e = absurd (true≢false e)
not_all_named (item ∷ items) e = without (name_of (view item)) (names_in (items_view items)) (list_all (λ i. is_some (name_of (view i))) items) (not_all_named items) e

-- ---- texts that are names

one_more_word : (w : Word) (ws : List Word) (a b : Bool) → is_word w ≡ a → names_in (texts_data ws) ≡ (if b then Some ws else None) → more (if a then Some w else None) (names_in (texts_data ws)) ≡ (if a && b then Some (w ∷ ws) else None)
one_more_word w ws true true is ih = ap (more (Some w)) ih
one_more_word w ws true false is ih = ap (more (Some w)) ih
one_more_word w ws false b is ih = refl

names_texts : (ws : List Word) → names_in (texts_data ws) ≡ (if list_all is_word ws then Some ws else None)
names_texts [] = refl
names_texts (w ∷ ws) = one_more_word w ws (is_word w) (list_all is_word ws) refl (names_texts ws)

texts_len : (ws : List Word) → items_len (texts_data ws) ≡ length ws
texts_len [] = refl
texts_len (w ∷ ws) = ap suc (texts_len ws)

texts_few : (ws : List Word) → length ws ≤ 8 → option_and_then names_in (some_and_few (texts_data ws)) ≡ words ws
texts_few [] h = refl
texts_few (w ∷ ws) h =
    let some : 1 ≤ items_len (texts_data (w ∷ ws)) = omega (arith, texts_len (w ∷ ws)) in
    let few : items_len (texts_data (w ∷ ws)) ≤ 8 = omega (arith, texts_len (w ∷ ws)) in
    rw (le-leb _ _ some, le-leb _ _ few) (names_texts (w ∷ ws))

pub few_listed : (names : Names) → length (listed names) ≤ 8
few_listed names = omega (arith, length-map (take names.len names.items) (λ s. s.now), length-take names.len names.items, names.few)

-- the words that a flat object lists are its labels
pub flat_words : (key : Word) (ms : Members) (names : Names) → Some (array (texts_data (listed names))) ≡ get_member key ms
    → words (listed names) ≡ option_and_then names_in (option_and_then some_and_few (option_and_then as_array (get_member key ms)))
flat_words key ms names is =
    sym (texts_few (listed names) (few_listed names)) ∙ ap (λ o. option_and_then names_in (option_and_then some_and_few (option_and_then as_array o))) is

pub words_same : (ws : List Word) (b : Bool) → b ≡ is_some (words ws) → b ≡ true → Some ws ≡ words ws
words_same [] b is h = absurd (true≢false (sym h ∙ is))
words_same (w ∷ ws) b is h = same_at (list_all is_word (w ∷ ws)) (sym is ∙ h)
  where
    same_at : (c : Bool) → is_some (if c then Some (w ∷ ws) else None) ≡ true → Some (w ∷ ws) ≡ (if c then Some (w ∷ ws) else None)
    same_at true e = refl
    same_at false e = absurd (true≢false (sym e))

pub words_none : (ws : List Word) (b : Bool) → b ≡ is_some (words ws) → b ≡ false → None ≡ words ws
words_none ws b is h = none_at (words ws) (sym is ∙ h)
  where
    none_at : (o : Option (List Word)) → is_some o ≡ false → None ≡ o
    none_at None e = refl
    none_at (Some l) e = absurd (true≢false e)

pub words_some : (ws : List Word) (b : Bool) → b ≡ is_some (words ws) → b ≡ true → 0 < length ws
words_some [] b is h = absurd (true≢false (sym h ∙ is))
words_some (w ∷ ws) b is h = omega arith

pub tests_words : (ws : List (Bor Word)) (empty : Bool) → empty ≡ (length ws == 0) → empty ≡ false → list_all (λ w. is_word w.now) ws ≡ is_some (words (map (λ w. w.now) ws))
tests_words [] empty is h = absurd (true≢false (sym is ∙ h))
tests_words (w ∷ ws) empty is h = sym (tested (list_all is_word (map (λ v. v.now) (w ∷ ws))) (list_all (λ v. is_word v.now) (w ∷ ws)) (list_all-map is_word (λ v. v.now) (w ∷ ws)))
  where
    tested : (a b : Bool) → a ≡ b → is_some (if a then Some (map (λ v. v.now) (w ∷ ws)) else None) ≡ b
    tested true b e = e
    tested false b e = e

-- the names are short where the words are that they are lent as
pub short_listed : (names : Names) (ws : List (Bor Word)) → ws ≡ take names.len names.items → list_all (λ w. is_short w.now) ws ≡ list_all is_short (listed names)
short_listed names ws is = ap (list_all (λ w. is_short w.now)) is ∙ sym (list_all-map is_short (λ w. w.now) (take names.len names.items))

-- one word is its own set
pub one_label : (names : Names) (ws : List (Bor Word)) (label : Bor Word) (name : Word) → ws ≡ take names.len names.items → ws ≡ label ∷ [] → list_all (λ w. is_short w.now) ws ≡ true → (is_short label.now ≡ true → name ≡ label.now)
    → (list_all is_short (listed names) ≡ true) × (name ∷ [] ≡ set_of (listed names))
one_label names ws label name is one short named =
    let only : listed names ≡ label.now ∷ [] = ap (map (λ s. s.now)) (sym is ∙ one) in
    let fits = and_parts (is_short label.now) true (ap (list_all (λ w. is_short w.now)) (sym one) ∙ short) in
    (sym (short_listed names ws is) ∙ short, ap (λ n. n ∷ []) (named fits.0) ∙ ap set_of (sym only))

pub names_data : (names : List Word) (m : Member) → m.part ≡ Part.Names → array (texts_data names) ≡ member_data names m
names_data names m is = sym (ap (part_data names) is)

-- ---- arrays that fill

-- a word at a place is no longer than a name may be, if none is
short_at : (ws : List (Bor Word)) (i : ℕ) (d : Bor Word) (b : Bool) → is_short (get_or ws i d).now ≡ b → list_all (λ w. is_short w.now) ws ≡ true → i < length ws → is_short (get_or ws i d).now ≡ true
short_at ws i d true e all lt = e
short_at ws i d false e all lt = absurd (true≢false (sym all ∙ list_all_at (λ w. is_short w.now) ws i d lt e))

-- one more name is in the block
pub one_more_name : (ws : List (Bor Word)) (names : List Word) (i : ℕ) (d : Bor Word) (name : Word) → (is_short (get_or ws i d).now ≡ true → name ≡ (get_or ws i d).now) → list_all (λ w. is_short w.now) ws ≡ true → i < length ws
    → length ws ≤ 8 → take i names ≡ take i (map (λ w. w.now) ws) → length names ≡ 8 → (take (i + 1) (set names i name) ≡ take (i + 1) (map (λ w. w.now) ws)) × (length (set names i name) ≡ 8)
one_more_name ws names i d name named short lt few front block =
    let here : name ≡ get_or (map (λ w. w.now) ws) i [] = named (short_at ws i d _ refl short lt) ∙ sym (get_or-map (λ w. w.now) ws i d [] lt) in (
      take_more_set names i name (omega (arith, lt, few, block)) ∙ ap₂ (λ ns n. ns ++ n ∷ []) front here
          ∙ sym (take_more (map (λ w. w.now) ws) i [] (subst (λ n. i < n) (sym (length-map ws (λ w. w.now))) lt)),
      length-set names i name ∙ block,
    )

-- one more text of an item
pub one_more_item : (items : List Value) (names : List (Bor Word)) (i : ℕ) (item : Value) (name : Bor Word) → i < length items → length items ≤ 8 → item ≡ get_or items i item → name.now ≡ listed_name item
    → map (λ s. s.now) (take i names) ≡ take i (listed_names items) → length names ≡ 8
    → (map (λ s. s.now) (take (i + 1) (set names i name)) ≡ take (i + 1) (listed_names items)) × (length (set names i name) ≡ 8)
one_more_item items names i item name lt few is named front block =
    let here : name.now ≡ get_or (listed_names items) i [] = named ∙ ap listed_name is ∙ sym (get_or-map listed_name items i item [] lt) in (
      more_texts names i name (omega (arith, lt, few, block)) ∙ ap₂ (λ ns n. ns ++ n ∷ []) front here ∙ sym (take_more (listed_names items) i [] (subst (λ n. i < n) (sym (length-map items listed_name)) lt)),
      length-set names i name ∙ block,
    )

pub all_items : (items : List Value) (names : List (Bor Word)) (i : ℕ) → map (λ s. s.now) (take i names) ≡ take i (listed_names items) → i ≡ length items → map (λ s. s.now) (take (length items) names) ≡ listed_names items
all_items items names i front end =
    subst (λ n. map (λ s. s.now) (take n names) ≡ take n (listed_names items)) end front ∙ take_all (length items) (listed_names items) (omega (arith, length-map items listed_name))

abbrev Made : Type 0
Made = Result (List Word) TextCode

ok_same : {a b : List Word} → (let r : Made = Ok a in r) ≡ Ok b → a ≡ b
ok_same e = cc

no_ok : {a : List Word} {code : TextCode} → (let r : Made = Err code in r) ≡ Ok a → ⊥
no_ok e = cc

-- what is made of the names is their set
pub as_set : (words : List Word) (o : Option (List Word)) (result : Result (List Word) TextCode) → result ≡ ok_or o TextCode.Name → o ≡ Some (set_of words) → IsTrue (list_all is_short words)
    → MatchResult result (λ set. IsTrue (list_all is_short words) × (set ≡ set_of words)) (λ code. (code ≡ TextCode.Name) × IsFalse (list_all is_short words))
as_set words o (Ok names) e made short = (short, ok_same (e ∙ ap (λ p. ok_or p TextCode.Name) made))
as_set words o (Err code) e made short = absurd (no_ok (e ∙ ap (λ p. ok_or p TextCode.Name) made))
