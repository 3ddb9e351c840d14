-- The header of a unit that was read.
use Rattle.std.proofs.Common.{◌≡◌, ℕ, Option, Some, None, List, refl, sym, ap, subst, ◌∙◌}
use Rattle.xs_params.specs.declared.header.Header.{Header}
use Rattle.xs_faults.specs.declared.HeadFault.{HeadFault}
use Rattle.xs_grammar.specs.Header.{IsHeaderUnit}
use Rattle.xs_markers.specs.Units.{header_unit_at, header_unit_fault}
use Rattle.xs_board.specs.declared.reading.Reading.{Reading}
use Rattle.xs_board.specs.declared.reading.Reading.TheVariants.{Good, Bad}
use Rattle.xs_board.specs.Reading.{read_unless, reading_of}

-- what a reading that is good, or bad, tells
good_of : (fault : Option HeadFault) (read : Header × ℕ) (h : Header) (n : ℕ) → Good h n ≡ read_unless fault read → (fault ≡ None) × (read.0 ≡ h) × (read.1 ≡ n)
good_of None read h n e = let h' : read.0 ≡ h = cc e in let n' : read.1 ≡ n = cc e in (refl, h', n')
good_of (Some f) read h n e = absurd (cc e)

bad_of : (fault : Option HeadFault) (read : Header × ℕ) (f : HeadFault) → Bad f ≡ read_unless fault read → fault ≡ Some f
bad_of None read f e = absurd (cc e)
bad_of (Some x) read f e = let same : x ≡ f = cc e in ap (λ (z : HeadFault). Some z) same

pub good_header : (bytes : List ℕ) (reading : Reading) (h : Header) (n : ℕ) → reading ≡ reading_of bytes → reading ≡ Good h n → (header_unit_fault bytes ≡ None → IsHeaderUnit (header_unit_at bytes).0 bytes (header_unit_at bytes).1) → IsHeaderUnit h bytes n
good_header bytes reading h n is good spelled =
    let g = good_of (header_unit_fault bytes) (header_unit_at bytes) h n (sym good ∙ is) in
    subst (λ k. IsHeaderUnit h bytes k) g.2 (subst (λ (x : Header). IsHeaderUnit x bytes (header_unit_at bytes).1) g.1 (spelled g.0))

pub bad_header : (bytes : List ℕ) (reading : Reading) (f : HeadFault) → reading ≡ reading_of bytes → reading ≡ Bad f → header_unit_fault bytes ≡ Some f
bad_header bytes reading f is bad = bad_of (header_unit_fault bytes) (header_unit_at bytes) f (sym bad ∙ is)
