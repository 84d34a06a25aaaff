-- The text of a value is read as that value.
use Rattle.std.proofs.Common.{◌≡◌, ℕ, ◌≤◌, ◌<◌, ◌^◌, ℤ, List, [], ◌∷◌, ◌++◌, Option, Some, None, option_map, option_and_then, refl, sym, ap, ◌∙◌, subst, append_assoc, append-nil, arith, codes, lit≤}
use Rattle.std.specs.Prelude.{pos, negsuc}
use Rattle.json.specs.Token.{Token}
use Rattle.json.specs.Lex.{tokens}
use Rattle.json.specs.Print.{ArePrintable, IsNumber}
use Rattle.json.specs.Json as json
use Rattle.json.specs.Tree as tree
use Rattle.json.proofs.Printed.Tokens.{tokens-print}
use Rattle.json.proofs.Printed.Trees.{value-json_tokens}
use Rattle.json.proofs.Printed.Decimals.{IsNumber-decimal, IsNumber-signed_decimal}
use Rattle.serde_json.specs.Data.{Data, number, string, object, Members, no_members, member, put}
use Rattle.serde_json.specs.Find.{of_integer}
use Rattle.serde_json.specs.Read.{read, max_depth, number_of, of_json, of_members}
use Rattle.serde_json.specs.Written.{outline, members_outline, number_text, compact_text}
use Rattle.serde_json.proofs.Texts.{print-outline}
use Rattle.serde_json.proofs.Numbers.{number_of-decimal, number_of-negative}
use Rattle.itpg_base.specs.Graphs.{Graph}
use Rattle.band_normal.specs.declared.band.End.{End}
use Rattle.band_normal.specs.declared.band.End.TheVariants.{Fixed, Moving}
use Rattle.relation_rows.specs.declared.rows.Row.{Row}
use Rattle.relation_rows.specs.declared.times.OneRow.{OneRow}
use Rattle.arrivals.specs.declared.counts.CountRow.{CountRow}
use Rattle.reply_text.specs.Values.{IsSmall, IsSmallEnd, end_value, signed, time_members, pair_members, count_members, puts, kept}

-- a text that is printed of a value's tokens is read as what those are
pub reads : (d e : Data) → ArePrintable (tree.json_tokens (outline d)) → of_json (outline d) ≡ Some e → tree.depth (outline d) ≤ max_depth → read (compact_text d) ≡ Some e
reads d e printable of shallow =
    let same : tokens (compact_text d) ≡ tree.json_tokens (outline d) = ap tokens (sym (print-outline d)) ∙ tokens-print _ printable in
    ap (λ o. option_and_then of_json (option_and_then (λ p. json.if_last p.0 p.1) o)) (ap (json.value max_depth) (same ∙ sym (append-nil _)) ∙ value-json_tokens (outline d) max_depth [] shallow) ∙ of

-- ---- numbers

read_number : (z : ℤ) → IsSmall z → number_of (number_text (of_integer z)) ≡ Some (of_integer z)
read_number (pos n) h = number_of-decimal n (omega (arith, h))
read_number (negsuc n) h = number_of-negative n (omega (arith, h))

printed_number : (z : ℤ) → IsSmall z → IsNumber (number_text (of_integer z))
printed_number (pos n) h = IsNumber-decimal n (omega (arith, h))
printed_number (negsuc n) h = IsNumber-signed_decimal (negsuc n) h

-- ---- members

-- the value is read as it is, and each of its tokens can be printed
pub record IsOwn (d : Data) : Type 0 where
  pub of : of_json (outline d) ≡ Some d
  pub printable : (rest : List Token) → ArePrintable rest → ArePrintable (tree.json_tokens (outline d) ++ rest)

pub own_text : (s : List ℕ) → IsOwn (string s)
unfolding ArePrintable
own_text s = record { of = refl; printable = λ rest h. (tt, h) }

pub own_number : (z : ℤ) → IsSmall z → IsOwn (number (of_integer z))
unfolding ArePrintable
own_number z h = record { of = ap (option_map number) (read_number z h); printable = λ rest p. (printed_number z h, p) }

-- each member is
abbrev pub AreOwn : Members → Type 0
AreOwn no_members = Unit {0}
AreOwn (member k d ms) = IsOwn d × AreOwn ms

members_of : (ms found : Members) → AreOwn ms → of_members (members_outline ms) found ≡ Some (puts ms found)
members_of no_members found own = refl
members_of (member k d ms) found own = ap (option_and_then (λ e. of_members (members_outline ms) (put k e found))) own.0.of ∙ members_of ms (put k d found) own.1

printable_members : (ms : Members) (rest : List Token) → AreOwn ms → ArePrintable rest → ArePrintable (tree.members_tokens (members_outline ms) ++ rest)
unfolding ArePrintable
printable_members no_members rest own h = (tt, h)
printable_members (member k d ms) rest own h =
    (tt, subst ArePrintable (sym (append_assoc (tree.json_tokens (outline d)) (tree.members_tokens (members_outline ms)) rest)) (own.0.printable (tree.members_tokens (members_outline ms) ++ rest) (printable_members ms rest own.1 h)))

-- an object of such members is read as its members go in one after another
pub object_of : (ms : Members) → AreOwn ms → of_json (outline (object ms)) ≡ Some (object (kept ms))
object_of ms own = ap (option_map object) (members_of ms no_members own)

object_printable : (ms : Members) → AreOwn ms → (rest : List Token) → ArePrintable rest → ArePrintable (tree.json_tokens (outline (object ms)) ++ rest)
unfolding ArePrintable
object_printable ms own rest h = (tt, printable_members ms rest own h)

-- an object of one member is read as it is
pub own_only : (key : List ℕ) (d : Data) → IsOwn d → IsOwn (object (member key d no_members))
own_only key d own = record { of = object_of (member key d no_members) (own, tt); printable = object_printable (member key d no_members) (own, tt) }

nothing : ArePrintable []
unfolding ArePrintable
nothing = tt

pub read_object : (ms : Members) → AreOwn ms → tree.depth (outline (object ms)) ≤ max_depth → read (compact_text (object ms)) ≡ Some (object (kept ms))
read_object ms own shallow = reads (object ms) (object (kept ms)) (subst ArePrintable (append-nil _) (object_printable ms own [] nothing)) (object_of ms own) shallow

-- ---- rows

own_end : (e : End) → IsSmallEnd e → IsOwn (end_value e)
own_end (Fixed n) h = own_only (codes "fixed") (number (of_integer n)) (own_number n h)
own_end (Moving k) h = own_only (codes "moving") (number (of_integer k)) (own_number k h)

own_signed : (sign : Option ℕ) (ms : Members) → AreOwn ms → AreOwn (signed sign ms)
own_signed None ms own = own
own_signed (Some s) ms own = (own_text (s ∷ []), own)

shallow_time : (g : Graph) (sign : Option ℕ) (r : OneRow) → tree.depth (outline (object (time_members g sign r))) ≤ max_depth
shallow_time g None r = lit≤ tt
shallow_time g (Some s) r = lit≤ tt

shallow_end : (e : End) → tree.depth (outline (end_value e)) ≤ 1
shallow_end (Fixed n) = lit≤ tt
shallow_end (Moving k) = lit≤ tt

shallow_pair : (g : Graph) (sign : Option ℕ) (r : Row) → tree.depth (outline (object (pair_members g sign r))) ≤ max_depth
shallow_pair g None r = let low = shallow_end r.band.low in let high = shallow_end r.band.high in omega (arith, low, high)
shallow_pair g (Some s) r = let low = shallow_end r.band.low in let high = shallow_end r.band.high in omega (arith, low, high)

pub times_read : (g : Graph) (sign : Option ℕ) (r : OneRow) → IsSmall r.span.from → IsSmall r.span.to → read (compact_text (object (time_members g sign r))) ≡ Some (object (kept (time_members g sign r)))
times_read g sign r from to = read_object (time_members g sign r) (own_signed sign _ (own_text _, (own_number r.span.from from, (own_number r.span.to to, tt)))) (shallow_time g sign r)

pub pairs_read : (g : Graph) (sign : Option ℕ) (r : Row) → IsSmall r.band.from → IsSmall r.band.to → IsSmallEnd r.band.low → IsSmallEnd r.band.high
    → read (compact_text (object (pair_members g sign r))) ≡ Some (object (kept (pair_members g sign r)))
pairs_read g sign r from to low high =
    read_object (pair_members g sign r) (own_signed sign _ (own_text _, (own_number r.band.from from, (own_number r.band.to to, (own_text _, (own_end r.band.low low, (own_end r.band.high high, tt))))))) (shallow_pair g sign r)

pub counts_read : (r : CountRow) → IsSmall r.span.from → IsSmall r.span.to → r.number < 2 ^ 32 → read (compact_text (object (count_members r))) ≡ Some (object (kept (count_members r)))
counts_read r from to few =
    let small : IsSmall (pos r.number) = omega (arith, few) in
    read_object (count_members r) (own_number r.span.from from, (own_number r.span.to to, (own_number (pos r.number) small, tt))) (lit≤ tt)
