-- Numbers of digits, and that words ask for one thing.
use Rattle.std.proofs.Common.{◌≡◌, ℕ, ◌<◌, ◌≤◌, ◌^◌, List, Option, Some, None, codes, MatchOption, Result, Ok, Err, length, ap, ap₂, Bool, sym, ◌∙◌, subst, rules, arith}
use Rattle.std.specs.Result.{result_ok}
use Rattle.std.specs.Str.Parse.{ParsesUnsigned}
use Rattle.std.proofs.lemmas.Str.Parse.{IsNumeralModel, numerals_by_weight, parse_digits, tells_by_index}
use Rattle.clap.specs.Words.{Text}
use Rattle.command_words.specs.declared.options.Options.{Options}
use Rattle.command_words.specs.Numbers.{AreDigits, value_of, Writes}
use Rattle.command_words.specs.Sentence.{value_in}
use Rattle.command_words.specs.OptionsOf.{AreOptionsOf, LimitIs, TrialIs}

own : IsNumeralModel AreDigits value_of
own = numerals_by_weight AreDigits tells_by_index value_of (search rules)

-- what std reads of digits
pub number_read : (E : Type 0) (text : List ℕ) (read : Result ℕ E) → AreDigits text → length text ≤ 20 → ParsesUnsigned 64 10 text read
    → MatchOption (result_ok read) ((n : ℕ) → n < 2 ^ 64 → ¬ Writes text n) (λ n. Writes text n)
number_read E text (Ok n) digits few h =
    let told = parse_digits own {E = E} 64 text (Ok n) h digits in
    record { some = told.0.0; few = few; digits = digits; value = sym told.1 }
number_read E text (Err e) digits few h = λ n small writes.
    let is : value_of text ≡ n = writes.value in
    parse_digits own {E = E} 64 text (Err e) h digits (writes.some, omega (arith, small, is))

-- a text writes one number
pub writes_one : (text : List ℕ) (m n : ℕ) → Writes text m → Writes text n → m ≡ n
writes_one text m n a b = sym a.value ∙ b.value

one_limit : (given : Option Text) (m n : ℕ) → LimitIs given m → LimitIs given n → m ≡ n
one_limit None m n a b = a ∙ sym b
one_limit (Some text) m n a b = writes_one text m n a.written b.written

one_trial : (given : Option Text) (s t : Option ℕ) → TrialIs given s → TrialIs given t → s ≡ t
one_trial None s t a b = a ∙ sym b
one_trial (Some text) (Some m) (Some n) a b = ap Some (writes_one text m n a.written b.written)
one_trial (Some text) None t a b = absurd a
one_trial (Some text) (Some m) None a b = absurd b

ap₃ : {A B C D : Type 0} (f : A → B → C → D) {a a2 : A} {b b2 : B} {c c2 : C} → a ≡ a2 → b ≡ b2 → c ≡ c2 → f a b c ≡ f a2 b2 c2
ap₃ f p q r = ap₂ (λ g c. g c) (ap₂ f p q) r

pub one_reading : (words : List Text) (a b : Options) → AreOptionsOf words a → AreOptionsOf words b → a ≡ b
one_reading words a b x y =
    ap₃ (λ (l : ℕ) (t : Option ℕ) (j : Bool). let o : Options = record { limits = l; trial = t; json = j } in o)
    (one_limit (value_in (codes "max-rows") words) a.limits b.limits x.limit y.limit)
    (one_trial (value_in (codes "trial") words) a.trial b.trial x.trial y.trial)
    (x.json ∙ sym y.json)

-- values for which there is no limit, or no trial, stand in no words that ask for something
pub no_limit : (words : List Text) (given : Option Text) (o : Options) → given ≡ value_in (codes "max-rows") words → ((n : ℕ) → ¬ LimitIs given n) → AreOptionsOf words o → ⊥
no_limit words given o e none h = let P : Option Text → Type 0 = λ v. LimitIs v o.limits in none o.limits (subst P (sym e) h.limit)

pub no_trial : (words : List Text) (given : Option Text) (o : Options) → given ≡ value_in (codes "trial") words → ((t : Option ℕ) → ¬ TrialIs given t) → AreOptionsOf words o → ⊥
no_trial words given o e none h = let P : Option Text → Type 0 = λ v. TrialIs v o.trial in none o.trial (subst P (sym e) h.trial)
