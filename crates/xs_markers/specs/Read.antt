-- What is read of a header.
use Rattle.std.specs.Prelude.{◌≡◌, ℕ, None, List}
use Rattle.xs_params.specs.declared.header.Header.{Header}
use Rattle.xs_grammar.specs.Header.{IsHeaderFront}
use Rattle.xs_markers.specs.Reading.{head_fault, header_at, header_end}

-- the bytes begin with a header, which has no fault, says this and ends at n
pub record IsHeaderRead (h : Header) (bytes : List ℕ) (n : ℕ) : Type 0 where
  pub no_fault : head_fault bytes ≡ None
  pub header : header_at bytes ≡ h
  pub ends : header_end bytes ≡ n
  pub spelled : IsHeaderFront h bytes n
