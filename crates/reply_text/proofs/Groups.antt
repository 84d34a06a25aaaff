-- The pieces of a line, as the texts, the pages and serde_json group them.
use Rattle.std.proofs.Common.{◌≡◌, ℕ, List, [], ◌++◌, append_assoc, append-nil}

-- a number
pub one_number : (p a x end : List ℕ) → p ++ a ++ (x ++ end) ≡ (p ++ (a ++ x)) ++ end
one_number p a x end = simp append_assoc

-- two numbers
pub two_numbers : (p a q b x end : List ℕ) → p ++ a ++ q ++ b ++ (x ++ end) ≡ (p ++ (a ++ (q ++ (b ++ x)))) ++ end
two_numbers p a q b x end = simp append_assoc

-- three numbers
pub three_numbers : (p a q b r c x end : List ℕ) → p ++ a ++ q ++ b ++ r ++ c ++ (x ++ end) ≡ (p ++ (a ++ (q ++ (b ++ (r ++ (c ++ x)))))) ++ end
three_numbers p a q b r c x end = simp append_assoc

-- a number and a word
pub number_and_word : (p a q w x y end : List ℕ) → p ++ a ++ q ++ w ++ (x ++ (y ++ end)) ≡ (p ++ (a ++ (q ++ ((w ++ x) ++ y)))) ++ end
number_and_word p a q w x y end = simp append_assoc

-- a word
pub one_word : (p w x y end : List ℕ) → p ++ w ++ (x ++ (y ++ end)) ≡ (p ++ ((w ++ x) ++ y)) ++ end
one_word p w x y end = simp append_assoc

-- a word and two numbers
pub word_and_two : (p w x q a r b y end : List ℕ) → p ++ w ++ (x ++ q) ++ a ++ r ++ b ++ (y ++ end) ≡ (p ++ ((w ++ x) ++ (q ++ (a ++ (r ++ (b ++ y)))))) ++ end
word_and_two p w x q a r b y end = simp append_assoc

-- a word and two numbers, twice
pub twice : (p w x q a r b comma o v d low e high y end : List ℕ)
    → (p ++ w ++ (x ++ q) ++ a ++ r ++ b) ++ comma ++ (o ++ v ++ (x ++ d) ++ low ++ e ++ high) ++ (y ++ end)
    ≡ (p ++ ((w ++ x) ++ (q ++ (a ++ (r ++ (b ++ ((comma ++ o) ++ ((v ++ x) ++ (d ++ (low ++ (e ++ (high ++ y)))))))))))) ++ end
twice p w x q a r b comma o v d low e high y end = simp append_assoc

-- five pieces of a page
pub five : (a b c d e : List ℕ) → a ++ (b ++ (c ++ (d ++ (e ++ [])))) ≡ a ++ b ++ c ++ d ++ e
five a b c d e = simp (append_assoc, append-nil)

-- seven
pub seven : (a b c d e f h : List ℕ) → a ++ (b ++ (c ++ (d ++ (e ++ (f ++ (h ++ [])))))) ≡ a ++ b ++ c ++ d ++ e ++ f ++ h
seven a b c d e f h = simp (append_assoc, append-nil)
