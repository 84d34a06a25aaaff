-- What is kept of a line that comes in pieces.
use Rattle.std.proofs.Common.{◌≡◌, ℕ, zero, suc, ◌+◌, ◌-◌, ◌<◌, ◌≤◌, min, List, [], ◌∷◌, ◌++◌, ◌∙◌, length, take, arith, ap, sym, subst, refl}
use Rattle.std.proofs.lemmas.List.{take_min}
use Rattle.std.proofs.Math.Seq.{take-append-add}
use Rattle.itpg_base.specs.declared.outside.Sink.{Ghosts}
use Rattle.itpg_session.specs.Machine.{Standing, Turn, Replies}
use Rattle.itpg_session.specs.Lines.{LineIs}
use Rattle.itpg_session.specs.MachineLaws.{FrontReplies}
use Rattle.itpg_session.specs.Steps.{Stepped, StepsWithin}
use Rattle.itpg_session.specs.declared.reply.Seen.{Seen}
use Rattle.itpg_run.specs.Lines.{kept}
use Rattle.itpg_run.specs.Out.{written}
use Rattle.itpg_run.specs.Fed.{RepliesTo, AnswersLine, AnswersWithin}
use Rattle.itpg_run.specs.declared.reader.Reader.{Reader}

pub take_past : (xs ys : List ℕ) (n : ℕ) → length xs ≤ n → take n (xs ++ ys) ≡ xs ++ take (n - length xs) ys
take_past xs ys n h =
    let e : n ≡ length xs + (n - length xs) = omega arith in
    ap (λ k. take k (xs ++ ys)) e ∙ take-append-add xs ys (n - length xs)

pub take_take : (n : ℕ) (xs ys : List ℕ) → take n (take n xs ++ ys) ≡ take n (xs ++ ys)
take_take zero xs ys = refl
take_take (suc n) [] ys = refl
take_take (suc n) (x ∷ xs) ys = ap (λ t. x ∷ t) (take_take n xs ys)

pub take_none : (n : ℕ) (xs : List ℕ) → 0 < n → take n xs ≡ [] → xs ≡ []
take_none n [] h e = refl
take_none zero (x ∷ xs) h e = absurd (omega arith)
take_none (suc n) (x ∷ xs) h e = cc

pub take_nothing : (n : ℕ) → take {A = ℕ} n [] ≡ []
take_nothing zero = refl
take_nothing (suc n) = refl

pub kept_is : kept ≡ 65538
unfolding kept
kept_is = refl

keeps_front : (m : ℕ) (xs ys : List ℕ) (n : ℕ) → length xs ≤ m → n ≡ min (m - length xs) (length ys) → xs ++ take n ys ≡ take m (xs ++ ys)
keeps_front m xs ys n h e = ap (λ t. xs ++ t) (ap (λ k. take k ys) e ∙ take_min (m - length xs) ys) ∙ sym (take_past xs ys m h)

-- a piece behind what was kept
pub keeps : (xs ys : List ℕ) (n : ℕ) → length xs ≤ 65538 → n ≡ min (65538 - length xs) (length ys) → xs ++ take n ys ≡ take kept (xs ++ ys)
keeps xs ys n h e = subst (λ m. xs ++ take n ys ≡ take m (xs ++ ys)) (sym kept_is) (keeps_front 65538 xs ys n h e)

-- a turn of what is kept gives each line with this front its output
replies_to : FrontReplies → (r : Reader) (front : List ℕ) → front ≡ r.line.items → (turn : Turn) → Replies r.session.limit r.session.machine (LineIs r.form front) turn → RepliesTo r (written r.form r.session.machine r.number turn)
replies_to fronts r front is turn a = λ line e.
    record {
      turn = turn;
      replies = (fronts r.session.limit r.session.machine r.form line kept turn (omega (arith, kept_is))).0 (subst (λ f. Replies r.session.limit r.session.machine (LineIs r.form f) turn) (is ∙ e) a);
      is = refl;
    }

module _ {K : Type 0} (sink : Ghosts K) (before after : K) (fronts : FrontReplies) (r : Reader) (front : List ℕ) (is : front ≡ r.line.items) where
  pub stepped_to : (new : Standing) (seen : Seen) → Stepped sink before after r.form (Replies r.session.limit r.session.machine (LineIs r.form front)) r.number r.session new seen → AnswersLine (sink.held before) (sink.held after) r new seen
  stepped_to new seen s = record { output = written r.form r.session.machine r.number s.turn; replies = replies_to fronts r front is s.turn s.turns; written = s.written; next = s.next; sees = s.sees }

  pub within_to : StepsWithin sink before after r.form (Replies r.session.limit r.session.machine (LineIs r.form front)) r.number r.session → AnswersWithin (sink.held before) (sink.held after) r
  within_to s = record { output = written r.form r.session.machine r.number s.turn; replies = replies_to fronts r front is s.turn s.turns; some = s.some }
