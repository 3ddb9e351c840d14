-- Edges by the geometry of a header are those by the header.
use Rattle.std.proofs.Common.{◌≡◌, ℕ, ◌<◌, List, sym, subst}
use Rattle.std.specs.Prelude.{Result, Ok, Err, IfOk}
use Rattle.xs_io.specs.declared.lists.Memory.{Memory}
use Rattle.xs_params.specs.declared.header.Header.{Header}
use Rattle.xs_params.specs.Geometry.{geometry_of, slice_count}
use Rattle.xs_params.specs.Rows.{Rows}
use Rattle.xs_geometry.specs.SliceLines.{AreLinesOf, BandLines, ShowRows}
use Rattle.xs_geometry.proofs.WrittenRows.{geometry_kept}
use Rattle.xs_stripe.specs.Edges.{EdgeRows, IsDownEdge, IsUpEdge, ShowsDown, ShowsUp}

abbrev pub Edges : Type 0
Edges = Result (EdgeRows × EdgeRows) Memory

lines_of_geometry : (h g : Header) (slice : ℕ) (rows : List BandLines) → g ≡ geometry_of h → AreLinesOf h slice rows → AreLinesOf g slice rows
lines_of_geometry h g slice rows same lines = subst (λ k. AreLinesOf k slice rows) (sym same) ((geometry_kept h slice rows).1 lines)

there_in : (h g : Header) (slice : ℕ) → g ≡ geometry_of h → slice < slice_count h → slice < slice_count g
there_in h g slice same there = subst (λ k. slice < slice_count k) (sym same) there

pub slice_there : (h g : Header) (slice : ℕ) (rows : List BandLines) → g ≡ geometry_of h → slice < slice_count h → AreLinesOf h slice rows → (s : ℕ) × (s < slice_count g) × AreLinesOf g s rows
slice_there h g slice rows same there lines = (slice, there_in h g slice same there, lines_of_geometry h g slice rows same lines)

pub ups : (h g : Header) (slice : ℕ) (rows : List BandLines) (result : Edges) → g ≡ geometry_of h → slice < slice_count h → AreLinesOf h slice rows
    → IfOk result (λ e. (s : ℕ) → s < slice_count g → AreLinesOf g s rows → IsUpEdge g s e.0) → IfOk result (λ e. IsUpEdge h slice e.0)
ups h g slice rows (Ok e) same there lines f = subst (λ k. IsUpEdge k slice e.0) same (f slice (there_in h g slice same there) (lines_of_geometry h g slice rows same lines))
ups h g slice rows (Err x) same there lines f = tt

pub downs : (h g : Header) (slice : ℕ) (rows : List BandLines) (result : Edges) → g ≡ geometry_of h → slice < slice_count h → AreLinesOf h slice rows
    → IfOk result (λ e. (s : ℕ) → s < slice_count g → AreLinesOf g s rows → IsDownEdge g s e.1) → IfOk result (λ e. IsDownEdge h slice e.1)
downs h g slice rows (Ok e) same there lines f = subst (λ k. IsDownEdge k slice e.1) same (f slice (there_in h g slice same there) (lines_of_geometry h g slice rows same lines))
downs h g slice rows (Err x) same there lines f = tt

pub shows_ups : (h g : Header) (slice : ℕ) (rows : List BandLines) (result : Edges) → g ≡ geometry_of h → AreLinesOf h slice rows
    → IfOk result (λ e. (s : ℕ) (shown : Rows) → AreLinesOf g s rows → ShowRows g shown rows → ShowsUp g s e.0 shown) → IfOk result (λ e. (shown : Rows) → ShowRows h shown rows → ShowsUp h slice e.0 shown)
shows_ups h g slice rows (Ok e) same lines f = λ shown shows. subst (λ k. ShowsUp k slice e.0 shown) same (f slice shown (lines_of_geometry h g slice rows same lines) (subst (λ k. ShowRows k shown rows) (sym same) shows))
shows_ups h g slice rows (Err x) same lines f = tt

pub shows_downs : (h g : Header) (slice : ℕ) (rows : List BandLines) (result : Edges) → g ≡ geometry_of h → AreLinesOf h slice rows
    → IfOk result (λ e. (s : ℕ) (shown : Rows) → AreLinesOf g s rows → ShowRows g shown rows → ShowsDown g s e.1 shown) → IfOk result (λ e. (shown : Rows) → ShowRows h shown rows → ShowsDown h slice e.1 shown)
shows_downs h g slice rows (Ok e) same lines f = λ shown shows. subst (λ k. ShowsDown k slice e.1 shown) same (f slice shown (lines_of_geometry h g slice rows same lines) (subst (λ k. ShowRows k shown rows) (sym same) shows))
shows_downs h g slice rows (Err x) same lines f = tt
