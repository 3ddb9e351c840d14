-- Headers that cut a picture into the same bands and slices.
use Rattle.std.proofs.Common.{◌≡◌, ℕ, List, ap, subst}
use Rattle.xs_params.specs.declared.header.Header.{Header}
use Rattle.xs_params.specs.Geometry.{geometry_of, slice_count}
use Rattle.xs_geometry.specs.SliceLines.{AreLinesOf, BandLines}
use Rattle.xs_geometry.proofs.WrittenRows.{geometry_kept}
use Rattle.xs_stripe.specs.Edges.{EdgeRows, IsDownEdge, IsUpEdge}
use Rattle.xs_handover.specs.Headers.{HaveSameLayout}

pub same_layout : (h other : Header) → h ≡ other → HaveSameLayout h other
same_layout h other e = record {
  shape = ap (λ (k : Header). k.shape) e;
  hsl = ap (λ (k : Header). k.hsl) e;
  nlx = ap (λ (k : Header). k.nlx) e;
  nly = ap (λ (k : Header). k.nly) e;
}

pub same_geometry : (h other : Header) → HaveSameLayout h other → geometry_of h ≡ geometry_of other
same_geometry h other l = λ i. geometry_of (record h { shape = l.shape i; hsl = l.hsl i; nlx = l.nlx i; nly = l.nly i })

pub lines_by : (h other : Header) (slice : ℕ) (body : List BandLines) → HaveSameLayout h other → AreLinesOf h slice body → AreLinesOf other slice body
lines_by h other slice body l lines =
    (geometry_kept other slice body).0 (subst (λ g. AreLinesOf g slice body) (same_geometry h other l) ((geometry_kept h slice body).1 lines))

pub up_by : (h other : Header) (slice : ℕ) (edge : EdgeRows) → HaveSameLayout h other → IsUpEdge h slice edge → IsUpEdge other slice edge
up_by h other slice edge l is = subst (λ g. IsUpEdge g slice edge) (same_geometry h other l) is

pub down_by : (h other : Header) (slice : ℕ) (edge : EdgeRows) → HaveSameLayout h other → IsDownEdge h slice edge → IsDownEdge other slice edge
down_by h other slice edge l is = subst (λ g. IsDownEdge g slice edge) (same_geometry h other l) is

pub count_by : (h other : Header) → HaveSameLayout h other → slice_count h ≡ slice_count other
count_by h other l = ap slice_count (same_geometry h other l)
