use Rattle.std.proofs.Common.{◌≡◌, ℕ, List, ◌<◌, ◌+◌, ◌⊎◌, arith, refl, rules, true, Contains, subst, inl, inr, sym}
use Rattle.itpg_base.specs.Devices.{saturate}
use Rattle.itpg_base.proofs.mem_sink.MemSinkSink.write.Goals as goal

refused : (f g : List ℕ) (a b m n p : ℕ) → f ≡ g → a ≡ b → m ≡ n → Contains g b ⊎ (n < p) → (true ≡ true → Contains f a ⊎ (m < p)) × (Contains f a ⊎ (m < p) → true ≡ true)
refused f g a b m n p e i j h =
    (λ _. elim h [ inl here ↦ inl (subst (λ l. Contains l a) (sym e) (subst (λ k. Contains g k) (sym i) here)) | inr full ↦ inr (omega arith) ], λ _. refl)

pub returns-then-fails-clause-failed : goal.returns-then-fails-clause-failed
returns-then-fails-clause-failed c =
    refused c.args.self.now.fail c.deref.result.now (saturate (c.args.self.now.calls + 1)) c.saturating_add-self-inside.result c.args.self.now.room _ _ (search rules) (search rules) (search rules) (c.fails.ensures.0 c.if-fails.true)
