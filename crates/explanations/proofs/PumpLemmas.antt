-- What reads do to the bytes that were taken of a source.
use Rattle.std.proofs.Common.{◌≡◌, ℕ, ◌+◌, ◌-◌, ◌≤◌, ◌<◌, Some, None, List, [], ◌++◌, length, refl, ap, length-append, arith}
use Rattle.std.specs.declared.option.Option.{Option}
use Rattle.std.specs.Io.KnownBytes.{Consumes}
use Rattle.std.proofs.KnownBytes.{Consumes-trans}
use Rattle.explanations.specs.Ends.{longest}
use Rattle.explanations.specs.Pumping.{Taking}
use Rattle.explanations.specs.Ends.{IsTooLong}

-- nothing was taken so far
pub taking_none : (before : Option (List ℕ)) → Taking before before 0
taking_none None = record { bytes = []; taken = tt; counted = refl }
taking_none (Some all) = record { bytes = []; taken = refl; counted = refl }

-- more bytes are taken
pub taking_more : (before mid left : Option (List ℕ)) (count size : ℕ) (more : List ℕ) → Taking before mid count → Consumes mid left more → size ≡ length more → Taking before left (count + size)
taking_more before mid left count size more t consumes sized = record {
  bytes = t.bytes ++ more;
  taken = Consumes-trans before mid left t.bytes more t.taken consumes;
  counted = omega (arith, t.counted, sized, length-append t.bytes more);
}

-- a source from which more than the longest script were taken is too long
pub too_long : (before mid left : Option (List ℕ)) (count : ℕ) (more : List ℕ) → Taking before mid count → count ≤ longest → Consumes mid left more → longest - count < length more → IsTooLong before
too_long before mid left count more t fits consumes long = long_by before left (t.bytes ++ more) (Consumes-trans before mid left t.bytes more t.taken consumes) (omega (arith, t.counted, length-append t.bytes more))
  where
    long_by : (before left : Option (List ℕ)) (bytes : List ℕ) → Consumes before left bytes → longest < length bytes → IsTooLong before
    long_by None left bytes c e = λ all is. cc
    long_by (Some x) None bytes c e = λ all is. absurd c
    long_by (Some x) (Some y) bytes c e = λ all is.
        let same : x ≡ all = cc in
        omega (arith, e, ap length same, ap length c, length-append bytes y)
