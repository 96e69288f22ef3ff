-- The writers' stores, put together: header, fields, application data. Assumes nothing.
use Prim.Native.Nat.{ℕ, ◌+◌, ◌≤◌}
use mathlib.Core.Path.{◌≡◌, sym, ap, ◌∙◌}
use mathlib.Core.List.{List}
use native.Mathlib.Omega.{arith}
use lib.ListN.{set}
use lib.Seq.{sets}
use mir.Val.{Fits}
use mir.Syntax.{w64}
use Rattle.std.specs.Prelude.{Option, Some, None}
use Rattle.wire.specs.Answers.{Put}
use Rattle.wire.specs.Records.{Field, byte, bytes_of, laid, widths}
use Rattle.wire.proofs.Stores.{sets_append}
use Rattle.wire.proofs.Folds.{joined_append}
use Rattle.wire.proofs.Records.{laid_length, laid_more}
use Rattle.connection.specs.declared.ForwardRequestFail.{ForwardRequestFail}
use Rattle.connection_words.specs.Requests.{triad}
use Rattle.statuses.specs.Layouts.{extended_fields, header_fields}
use Rattle.statuses.specs.declared.Status.{Status}
use Rattle.failure_encode.specs.Failures.{failure_fields, failure_bytes}

-- ---- failure
module _ (service : ℕ) (s : Status) (old : List ℕ) where
  module _ (at : ℕ) (a : List ℕ) (p : Put (laid (header_fields service s)) old at a) where
    short : at ≤ 6
    short = omega (arith, p.size, laid_length (header_fields service s), most s.extended)
      where
        most : (x : Option ℕ) → widths (extended_fields x) ≤ 3
        most None = omega arith
        most (Some w) = omega arith

    pub failure_fits : Fits w64 (at + 8)
    failure_fits = record { fits = omega (arith, short) }

    module _ (f : ForwardRequestFail) where
      behind : (z : List ℕ) → z ≡ sets a at (laid (failure_fields f)) → z ≡ sets old 0 (failure_bytes service s f)
      unfolding failure_bytes
      behind z e =
          let front : List ℕ = laid (header_fields service s) in
          let rest : List ℕ = laid (failure_fields f) in
          e
          ∙ ap (λ (l : List ℕ). sets l at rest) p.stored
          ∙ ap (λ (k : ℕ). sets (sets old 0 front) k rest) (omega (arith, p.size))
          ∙ sets_append old front rest 0
          ∙ ap (λ (l : List ℕ). sets old 0 l) (sym (joined_append bytes_of (header_fields service s) (failure_fields f)))

      module _ (b : List ℕ) (e : b ≡ sets a at (laid (triad f.connection_serial_number f.originator_vendor_id f.originator_serial_number))) where
        pub failure_bare : f.remaining_path_size ≡ None → b ≡ sets old 0 (failure_bytes service s f)
        failure_bare h = behind b (e ∙ rw h)

        pub failure_words : (w : ℕ) (c : List ℕ) → f.remaining_path_size ≡ Some w → c ≡ set b (at + 8) w → c ≡ sets old 0 (failure_bytes service s f)
        failure_words w c h g =
            let fs : List Field = triad f.connection_serial_number f.originator_vendor_id f.originator_serial_number in
            behind c (laid_more fs (byte w) a b c at (at + 8) e (omega arith) g ∙ rw h)

pub ruleset failure_laws = (failure_fits, failure_bare, failure_words)
