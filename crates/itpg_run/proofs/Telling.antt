-- Lines tell one thing.
use Rattle.std.proofs.Common.{◌≡◌, ◌⊎◌, inl, inr, ℕ, ◌+◌, Bool, true, false, List, [], ◌∷◌, ◌++◌, codes, get_or, drop, length, nat_eq, refl, ap, ◌∙◌, sym, subst, append_assoc, append-nil, arith}
use Rattle.std.proofs.lemmas.Bool.{eqb-true, eqb-false}
use Rattle.row_printer.specs.declared.form.Form.{Form}
use Rattle.itpg_session.specs.Replies.{IsReply}
use Rattle.itpg_session.specs.Machine.{Machine, IsGood, opening}
use Rattle.itpg_session.specs.MachineLaws.{OneAsked, SomeAsked, OneReply, SomeReply, GoodReply, GoodOpening}
use Rattle.trial_script.specs.Script.{Asks, script}
use Rattle.itpg_run.specs.Summary.{Told, nothing, told_both, told_of, Tells}
use Rattle.itpg_run.specs.SummaryLaws.{OneSummary, SomeSummary}
use Rattle.itpg_run.proofs.Running.{or_assoc, or-false}

-- the laws of the plain machine, as the session gives them
pub record Laws : Type 0 where
  pub one_asked : OneAsked
  pub some_asked : SomeAsked
  pub one : OneReply
  pub some : SomeReply
  pub good : GoodReply
  pub opening : GoodOpening

pub joined_assoc : (x y z : Told) → told_both x (told_both y z) ≡ told_both (told_both x y) z
joined_assoc x y z = let e = sym (append_assoc x.text y.text z.text) in let f = or_assoc x.wide y.wide z.wide in cc

pub told_both-nothing : (x : Told) → told_both x nothing ≡ x
told_both-nothing x = rw (append-nil x.text, or-false x.wide) refl

asks_one : (line x y : List ℕ) → Asks line x → Asks line y → x ≡ y
asks_one line x y a b = ap (drop 4) (sym a ∙ b)

begins : (front line : List ℕ) → ((rest : List ℕ) × (line ≡ front ++ rest)) ⊎ ((rest : List ℕ) → ¬ (line ≡ front ++ rest))
begins [] line = inl (line, refl)
begins (b ∷ front) [] = inr (λ rest e. let n = ap length e in absurd (omega (arith, n)))
begins (b ∷ front) (c ∷ line) = by_test (nat_eq c b) refl (begins front line)
  where
    by_test : (t : Bool) → nat_eq c b ≡ t → ((rest : List ℕ) × (line ≡ front ++ rest)) ⊎ ((rest : List ℕ) → ¬ (line ≡ front ++ rest))
        → ((rest : List ℕ) × (c ∷ line ≡ b ∷ (front ++ rest))) ⊎ ((rest : List ℕ) → ¬ (c ∷ line ≡ b ∷ (front ++ rest)))
    by_test true e (inl same) = inl (same.0, let h = eqb-true c b e in let i = same.1 in cc)
    by_test true e (inr other) = inr (λ rest h. other rest (ap (drop 1) h))
    by_test false e r = inr (λ rest h. eqb-false c b e (ap (λ l. get_or l 0 0) h))

pub one_told : Laws → (limit : ℕ) (m : Machine) (k : ℕ) (ls : List (List ℕ)) (x y : Told) → IsGood m → Tells limit m k ls x → Tells limit m k ls y → x ≡ y
unfolding Tells
one_told laws limit m k [] x y good r s = r ∙ sym s
one_told laws limit m k (l ∷ ls) x y good (inl r) (inl s) =
    let reply : r.reply ≡ s.reply =
    laws.one_asked m.graph limit s.query r.reply s.reply (subst (λ q. IsReply m.graph limit q r.reply) (asks_one l r.query s.query r.asks s.asks) r.replies) s.replies in
    let rest : r.rest ≡ s.rest = one_told laws limit m (k + 1) ls r.rest s.rest good r.goes_on s.goes_on in
    r.is ∙ ap (λ t. told_both (told_of k t) r.rest) reply ∙ ap (told_both (told_of k s.reply)) rest ∙ sym s.is
one_told laws limit m k (l ∷ ls) x y good (inl r) (inr s) = absurd (s.others r.query r.asks)
one_told laws limit m k (l ∷ ls) x y good (inr r) (inl s) = absurd (r.others s.query s.asks)
one_told laws limit m k (l ∷ ls) x y good (inr r) (inr s) =
    let turn : r.turn ≡ s.turn = laws.one limit m Form.Plain l r.turn s.turn good r.replies s.replies in
    one_told laws limit s.turn.next k ls x y (laws.good limit m Form.Plain l s.turn good s.replies) (subst (λ t. Tells limit t.next k ls x) turn r.goes_on) s.goes_on

pub some_told : Laws → (limit : ℕ) (m : Machine) (k : ℕ) (ls : List (List ℕ)) → IsGood m → (t : Told) × Tells limit m k ls t
unfolding Tells
some_told laws limit m k [] good = (nothing, refl)
some_told laws limit m k (l ∷ ls) good = elim (begins (codes "ask ") l) [
  | inl asks ↦
      let reply = laws.some_asked m.graph limit asks.0 in
      let rest = some_told laws limit m (k + 1) ls good in
      (told_both (told_of k reply.0) rest.0, inl (record { query = asks.0; asks = asks.1; reply = reply.0; replies = reply.1; rest = rest.0; goes_on = rest.1; is = refl }))
  | inr others ↦
      let turn = laws.some limit m Form.Plain l good in
      let rest = some_told laws limit turn.0.next k ls (laws.good limit m Form.Plain l turn.0 good turn.1) in
      (rest.0, inr (record { others = others; turn = turn.0; replies = turn.1; goes_on = rest.1 }))
]

pub one_summary : Laws → OneSummary
one_summary laws limit number x y r s = one_told laws limit opening 1 (script number) x y laws.opening r s

pub some_summary : Laws → SomeSummary
some_summary laws limit number = some_told laws limit opening 1 (script number) laws.opening
