-- Tokens that are taken one behind another, and what is said of them before any is kept.
use Rattle.std.proofs.Common.{◌≡◌, ◌⊎◌, inl, inr, ⊎_elim, ◌↔◌, ℕ, suc, ◌+◌, ◌<◌, ◌≤◌, ◌||◌, Bool, true, false, List, [], ◌∷◌, ◌++◌, map, length, Option, Some, None, Result, Ok, Err, refl, sym, ap, subst, ◌∙◌, arith, true≢false, length-append}
use Rattle.std.specs.Prelude.{nat_lt, count_by, cond, IsTrue, if◌then◌else◌, MatchResult, IfOk, IfErr}
use Rattle.std.proofs.lemmas.Bool.{or_cases, or_left, or_right, cases_lt, ltb-true, lt-ltb}
use Rattle.std.proofs.lemmas.List.{map-append, take-append-le, take_all}
use Rattle.std.proofs.lemmas.List.Sums.{sum_by-append}
use Rattle.itpg_base.specs.declared.text_code.TextCode.{TextCode}
use Rattle.itpg_base.specs.declared.text_code.TextCode.TheVariants.{Long, Byte, Tokens, Deep, Text}
use Rattle.script_lex.specs.Lexemes.{Lexeme}
use Rattle.script_lex.specs.Lines.{Placed, LeadTo, IsNext, EndsAt}
use Rattle.script_lex.proofs.OneList.{lead_more, lead_end}
use Rattle.script_lex.specs.declared.token.TheConstants.{MAX_TOKENS}
use Rattle.match_parser.specs.declared.scan.TheConstants.{MAX_DEPTH}
use Rattle.match_parser.specs.declared.scan.Look.{Look}
use Rattle.match_parser.specs.Faults.{opens, closes, AreOpen, AreDeep}
use Rattle.match_parser.specs.Reading.{lexeme_of, IsText, FaultOf}
use Rattle.match_parser.specs.Scans.{HasSeen, IsSurveyed, by_end, by_depth, judged}
use Rattle.match_parser.proofs.Law.{Clean, clean_more, one_at_least, ends_in_two}

-- these tokens were taken, and this is where the next may stand
pub record Collected (text : List ℕ) (tokens : List Lexeme) (at : ℕ) : Type 0 where
  pub placed : List Placed
  pub lead : LeadTo text 0 placed at
  pub same : map lexeme_of placed ≡ tokens
  pub within : at ≤ length text

pub collected_more : (text : List ℕ) (tokens : List Lexeme) (at : ℕ) (t : Placed) → Collected text tokens at → IsNext text at t → t.to ≤ length text → Collected text (tokens ++ t.what ∷ []) t.to
collected_more text tokens at t c n h = record {
  placed = c.placed ++ t ∷ [];
  lead = lead_more text 0 at c.placed t c.lead n;
  same = map-append lexeme_of c.placed (t ∷ []) ∙ ap (λ (l : List Lexeme). l ++ t.what ∷ []) c.same;
  within = h;
}

pub collected_end : (text : List ℕ) (tokens : List Lexeme) (at : ℕ) (end : Option TextCode) → Collected text tokens at → EndsAt text at end → IsText text tokens end
collected_end text tokens at end c e = record { placed = c.placed; are = lead_end text 0 at c.placed end c.lead e; same = c.same }

count_more : (p : Lexeme → Bool) (ts : List Lexeme) (t : Lexeme) → count_by p (ts ++ t ∷ []) ≡ count_by p ts + (if p t then 1 else 0)
count_more p ts t = let both = sum_by-append (λ x. cond (p x) 1 0) ts (t ∷ []) in omega (arith, both)

-- a front of the tokens with one more is a front of the tokens, or all of them
deep_more : (ts : List Lexeme) (t : Lexeme) → AreDeep (ts ++ t ∷ []) → AreDeep ts ⊎ AreOpen (ts ++ t ∷ [])
deep_more ts t h = elim (cases_lt (length ts) h.0) [
  | inl past ↦ inr (subst AreOpen (take_all h.0 (ts ++ t ∷ []) (omega (arith, past, length-append ts (t ∷ [])))) h.1)
  | inr within ↦ inl (h.0, subst AreOpen (take-append-le h.0 ts (t ∷ []) within) h.1)
]

deep_less : (ts : List Lexeme) (t : Lexeme) → AreDeep ts → AreDeep (ts ++ t ∷ [])
deep_less ts t h = elim (cases_lt (length ts) h.0) [
  | inl past ↦ (length ts, subst AreOpen (take_all h.0 ts (omega (arith, past)) ∙ sym (take_all (length ts) ts (omega arith)) ∙ sym (take-append-le (length ts) ts (t ∷ []) (omega arith))) h.1)
  | inr within ↦ (h.0, subst AreOpen (sym (take-append-le h.0 ts (t ∷ []) within)) h.1)
]

deep_here : (ts : List Lexeme) → AreOpen ts → AreDeep ts
deep_here ts h = (length ts, subst AreOpen (sym (take_all (length ts) ts (omega arith))) h)

deep_flag : (ts : List Lexeme) (t : Lexeme) (old open_here : Bool) → (IsTrue old ↔ AreDeep ts) → (IsTrue open_here → AreOpen (ts ++ t ∷ [])) → (AreOpen (ts ++ t ∷ []) → IsTrue open_here) → IsTrue (old || open_here) ↔ AreDeep (ts ++ t ∷ [])
deep_flag ts t old open_here was there back = (
  λ e. ⊎_elim (λ o. deep_less ts t (was.0 o)) (λ n. deep_here (ts ++ t ∷ []) (there n)) (or_cases old open_here e),
  λ d. ⊎_elim (λ o. or_left old open_here (was.1 o)) (λ n. or_right old open_here (back n)) (deep_more ts t d),
)

at_most_one : (b : Bool) → (let n : ℕ = if b then 1 else 0 in n) ≤ 1
at_most_one true = omega arith
at_most_one false = omega arith

-- the look with one more token
module _ (text : List ℕ) (look new : Look) (t : Placed) where
  pub seen_more : HasSeen text look → IsNext text look.at t → look.at ≤ t.from → t.from < t.to → t.to ≤ length text → new.at ≡ t.to → new.count ≡ look.count + 1 → new.opened ≡ look.opened + (if opens t.what then 1 else 0) → new.closed ≡ look.closed + (if closes t.what then 1 else 0) → new.deep ≡ (look.deep || nat_lt (new.closed + MAX_DEPTH) new.opened) → HasSeen text new
  seen_more s n from some to at count opened closed deep =
      let ts : List Lexeme = map lexeme_of s.placed in
      let all : map lexeme_of (s.placed ++ t ∷ []) ≡ map lexeme_of s.placed ++ t.what ∷ [] = map-append lexeme_of s.placed (t ∷ []) in
      let open_count : new.opened ≡ count_by opens (map lexeme_of s.placed ++ t.what ∷ []) = opened ∙ ap (λ (k : ℕ). k + (if opens t.what then 1 else 0)) s.opened ∙ sym (count_more opens (map lexeme_of s.placed) t.what) in
      let close_count : new.closed ≡ count_by closes (map lexeme_of s.placed ++ t.what ∷ []) = closed ∙ ap (λ (k : ℕ). k + (if closes t.what then 1 else 0)) s.closed ∙ sym (count_more closes (map lexeme_of s.placed) t.what) in
      let flag = deep_flag (map lexeme_of s.placed) t.what look.deep (nat_lt (new.closed + MAX_DEPTH) new.opened) s.deep
      (λ e. let less : new.closed + MAX_DEPTH < new.opened = ltb-true (new.closed + MAX_DEPTH) new.opened e in omega (arith, less, open_count, close_count))
      (λ o. lt-ltb (new.closed + MAX_DEPTH) new.opened (omega (arith, o, open_count, close_count))) in
      record {
        placed = s.placed ++ t ∷ [];
        lead = subst (LeadTo text 0 (s.placed ++ t ∷ [])) (sym at) (lead_more text 0 look.at s.placed t s.lead n);
        within = omega (arith, at, to);
        few = omega (arith, at, count, s.few, from, some);
        opened_few = omega (arith, opened, count, s.opened_few, at_most_one (opens t.what));
        closed_few = omega (arith, closed, count, s.closed_few, at_most_one (closes t.what));
        count = omega (arith, count, s.count, length-append s.placed (t ∷ []));
        opened = open_count ∙ ap (count_by opens) (sym all);
        closed = close_count ∙ ap (count_by closes) (sym all);
        deep = subst (λ (b : Bool). IsTrue b ↔ AreDeep (map lexeme_of (s.placed ++ t ∷ []))) (sym deep) (subst (λ (l : List Lexeme). IsTrue (look.deep || nat_lt (new.closed + MAX_DEPTH) new.opened) ↔ AreDeep l) (sym all) flag);
      }

-- what is said at the end of the tokens
pub clean_long : (ts : List Lexeme) (end : Option TextCode) → Clean ts end 2
clean_long ts end = clean_more ts end Long (λ c less m. omega (arith, less, one_at_least c)) (λ m. m)

abbrev pub Said : List ℕ → Option TextCode → Result ℕ TextCode → Type 0
Said text end r = MatchResult r (λ n. (end ≡ None) × IsSurveyed text n) (FaultOf text)

module _ (text : List ℕ) (ts : List Lexeme) (count : ℕ) (many : count ≡ length ts) (deep : Bool) (flag : IsTrue deep ↔ AreDeep ts) where
  end_said : (end : Option TextCode) → IsText text ts end → (end ≡ None) ⊎ (end ≡ Some Text) → Clean ts end 5 → Said text end (by_end count end)
  end_said None is two clean = (refl, record { tokens = ts; is = is; count = many; clean = clean })
  end_said (Some c) is (inl e) clean = absurd (let none : ⊥ = cc in none)
  end_said (Some c) is (inr e) clean = subst (FaultOf text) (sym (let same : c ≡ Text = cc in same)) (record { tokens = ts; end = Some c; is = is; meets = inl e; first = clean })

  depth_said : (end : Option TextCode) → IsText text ts end → (end ≡ None) ⊎ (end ≡ Some Text) → Clean ts end 3 → Said text end (by_depth count deep end)
  depth_said end is two clean = by_count (nat_lt MAX_TOKENS count) refl
    where
      by_flag : (d : Bool) → deep ≡ d → Clean ts end 4 → Said text end (if d then Err Deep else by_end count end)
      by_flag true d c4 = record { tokens = ts; end = end; is = is; meets = flag.0 d; first = c4 }
      by_flag false d c4 = end_said end is two (clean_more ts end Deep c4 (λ m. true≢false (sym (flag.1 m) ∙ d)))

      by_count : (b : Bool) → nat_lt MAX_TOKENS count ≡ b → Said text end (if b then Err Tokens else (if deep then Err Deep else by_end count end))
      by_count true b = record { tokens = ts; end = end; is = is; meets = let above : MAX_TOKENS < count = ltb-true MAX_TOKENS count b in omega (arith, above, many); first = clean }
      by_count false b = by_flag deep refl (clean_more ts end Tokens clean (λ m. true≢false (sym (lt-ltb MAX_TOKENS count (omega (arith, m, many))) ∙ b)))

  pub all_said : (end : Option TextCode) → IsText text ts end → (end ≡ None) ⊎ ((end ≡ Some Byte) ⊎ (end ≡ Some Text)) → Said text end (judged count deep end)
  all_said end is (inl e) = subst (λ (k : Option TextCode). IsText text ts k → Said text k (judged count deep k)) (sym e) (λ i. depth_said None i (inl refl) (clean_more ts None Byte (clean_long ts None) (λ m. let none : ⊥ = cc in none))) is
  all_said end is (inr (inl e)) = subst (λ (k : Option TextCode). IsText text ts k → Said text k (judged count deep k)) (sym e) (λ i. record { tokens = ts; end = Some Byte; is = i; meets = refl; first = clean_long ts (Some Byte) }) is
  all_said end is (inr (inr e)) = subst (λ (k : Option TextCode). IsText text ts k → Said text k (judged count deep k)) (sym e) (λ i. depth_said (Some Text) i (inr refl) (clean_more ts (Some Text) Byte (clean_long ts (Some Text)) (λ m. let none : ⊥ = cc in none))) is

long : (ps : List Placed) → length (map lexeme_of ps) ≡ length ps
long [] = refl
long (p ∷ ps) = ap suc (long ps)

pub look_said : (text : List ℕ) (look : Look) (end : Option TextCode) → HasSeen text look → EndsAt text look.at end → Said text end (judged look.count look.deep end)
look_said text look end s e =
    let are = lead_end text 0 look.at s.placed end s.lead e in
    let is : IsText text (map lexeme_of s.placed) end = record { placed = s.placed; are = are; same = refl } in
    all_said text (map lexeme_of s.placed) look.count (s.count ∙ sym (long s.placed)) look.deep s.deep end is (ends_in_two text 0 s.placed end are)

pub said_ok : (text : List ℕ) (end : Option TextCode) (r s : Result ℕ TextCode) → r ≡ s → Said text end s → IfOk r (λ n. IsSurveyed text n)
said_ok text end r s e h = subst (λ (q : Result ℕ TextCode). IfOk q (λ n. IsSurveyed text n)) (sym e) (by_result s h)
  where
    by_result : (q : Result ℕ TextCode) → Said text end q → IfOk q (λ n. IsSurveyed text n)
    by_result (Ok n) k = k.1
    by_result (Err c) k = tt

pub said_err : (text : List ℕ) (end : Option TextCode) (r s : Result ℕ TextCode) → r ≡ s → Said text end s → IfErr r (λ c. FaultOf text c)
said_err text end r s e h = subst (λ (q : Result ℕ TextCode). IfErr q (λ c. FaultOf text c)) (sym e) (by_result s h)
  where
    by_result : (q : Result ℕ TextCode) → Said text end q → IfErr q (λ c. FaultOf text c)
    by_result (Ok n) k = tt
    by_result (Err c) k = k
