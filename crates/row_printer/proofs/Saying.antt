-- Text that goes to a sink by way of a page.
use Rattle.std.proofs.Common.{◌≡◌, ℕ, List, [], ◌++◌, refl, sym, ap, ◌∙◌, subst, append_assoc, append-nil}
use Rattle.std.specs.Prelude.{Result, Ok, Err, OnErr}
use Rattle.std.specs.declared.option.Option.{Option}
use Rattle.std.specs.Io.KnownBytes.{Appends}
use Rattle.std.proofs.KnownBytes.{Appends-nil, Appends-trans}
use Rattle.itpg_base.specs.Outside.{AppendsSome}
use Rattle.row_printer.specs.Said.{Said, Says, SaysSome}

pub said_first : (held : Option (List ℕ)) (page : List ℕ) → Said held held page page
said_first held page = record { sent = []; appends = Appends-nil held; split = refl }

pub said_add : (start now : Option (List ℕ)) (page new more text : List ℕ) → Said start now page text → new ≡ page ++ more → Said start now new (text ++ more)
said_add start now page new more text s e = record { sent = s.sent; appends = s.appends; split = ap (λ t. s.sent ++ t) e ∙ sym (append_assoc s.sent page more) ∙ ap (λ t. t ++ more) s.split }

pub said_all : (start before now : Option (List ℕ)) (page text : List ℕ) → Said start before page text → Appends before now page → Appends start now text
said_all start before now page text s a = subst (Appends start now) s.split (Appends-trans start before now s.sent page s.appends a)

pub said_write : (start before now : Option (List ℕ)) (page new text : List ℕ) → Said start before page text → Appends before now page → new ≡ [] → Said start now new text
said_write start before now page new text s a e = record { sent = text; appends = said_all start before now page text s a; split = ap (λ t. text ++ t) e ∙ append-nil text }

pub said_some : (start before now : Option (List ℕ)) (page text : List ℕ) → Said start before page text → AppendsSome before now page → (rest : List ℕ) → AppendsSome start now (text ++ rest)
said_some start before now page text s a rest = record {
  taken = s.sent ++ a.taken;
  rest = a.rest ++ rest;
  split = sym (append_assoc (s.sent ++ a.taken) a.rest rest) ∙ ap (λ t. t ++ rest) (append_assoc s.sent a.taken a.rest ∙ ap (λ t. s.sent ++ t) a.split ∙ s.split);
  appends = Appends-trans start before now s.sent a.taken s.appends a.appends;
}

pub said_more : (start now : Option (List ℕ)) (page : List ℕ) (text more all : List ℕ) → Said start now page (text ++ more) → text ++ more ≡ all → Said start now page all
said_more start now page text more all s e = subst (Said start now page) e s

-- what holds at all holds on an error
pub on_err : {T E : Type 0} (r : Result T E) (P : Type 0) → P → OnErr r P
on_err (Ok x) P p = tt
on_err (Err e) P p = p

pub says_none : (held : Option (List ℕ)) (page more : List ℕ) → more ≡ [] → Says held held page page more
says_none held page more e = λ start text s. subst (Said start held page) (sym (append-nil text) ∙ ap (λ t. text ++ t) (sym e)) s

pub says_then : (a b c : Option (List ℕ)) (p q r more extra all : List ℕ) → Says a b p q more → Says b c q r extra → more ++ extra ≡ all → Says a c p r all
says_then a b c p q r more extra all f g e = λ start text s.
    subst (Said start c r) (append_assoc text more extra ∙ ap (λ t. text ++ t) e) (g start (text ++ more) (f start text s))

pub says_add : (held : Option (List ℕ)) (page new more : List ℕ) → new ≡ page ++ more → Says held held page new more
says_add held page new more e = λ start text s. said_add start held page new more text s e

pub says_some : (a b c : Option (List ℕ)) (p q more extra tail all : List ℕ) → Says a b p q more → SaysSome b c q extra → more ++ (extra ++ tail) ≡ all → SaysSome a c p all
says_some a b c p q more extra tail all f g e = λ start text s rest.
    let whole : (text ++ more) ++ (extra ++ (tail ++ rest)) ≡ text ++ (all ++ rest) =
    append_assoc text more (extra ++ (tail ++ rest)) ∙ ap (λ t. text ++ t) (ap (λ t. more ++ t) (sym (append_assoc extra tail rest)) ∙ sym (append_assoc more (extra ++ tail) rest) ∙ ap (λ t. t ++ rest) e) in
    subst (AppendsSome start c) whole (g start (text ++ more) (f start text s) (tail ++ rest))

pub says_write_some : (before now : Option (List ℕ)) (page more : List ℕ) → AppendsSome before now page → SaysSome before now page more
says_write_some before now page more a = λ start text s rest. said_some start before now page text s a (more ++ rest)

-- text that goes behind the page straight to the sink
pub says_direct : (a b c : Option (List ℕ)) (page new text : List ℕ) → Appends a b page → Appends b c text → new ≡ [] → Says a c page new text
says_direct a b c page new text first second e = λ start t s. record {
  sent = t ++ text;
  appends = Appends-trans start b c t text (said_all start a b page t s first) second;
  split = ap (λ p. (t ++ text) ++ p) e ∙ append-nil (t ++ text);
}

-- and of which the sink took but a front part
pub says_front : (a b c : Option (List ℕ)) (page text more : List ℕ) → Appends a b page → AppendsSome b c text → SaysSome a c page (text ++ more)
says_front a b c page text more first some = λ start t s rest. record {
  taken = t ++ some.taken;
  rest = some.rest ++ (more ++ rest);
  split = append_assoc t some.taken (some.rest ++ (more ++ rest))
      ∙ ap (λ x. t ++ x) (sym (append_assoc some.taken some.rest (more ++ rest)) ∙ ap (λ x. x ++ (more ++ rest)) some.split ∙ sym (append_assoc text more rest));
  appends = Appends-trans start b c t some.taken (said_all start a b page t s first) some.appends;
}
