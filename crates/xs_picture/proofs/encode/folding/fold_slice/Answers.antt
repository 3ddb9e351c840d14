use Rattle.std.proofs.Common.{◌≡◌, ◌<◌, ◌≤◌, [], length, get_or, sym, ap, subst, ◌∙◌, arith}
use Rattle.xs_params.specs.Geometry.{band_component, band_type_of}
use Rattle.xs_geometry.specs.Sides.{type_of}
use Rattle.xs_picture.specs.Analysed.{plane_of_band, rows_of_component, rows_of_kind}
use Rattle.xs_picture.proofs.Folded.{component_there, line_inside, rows_more}
use Rattle.xs_picture.proofs.encode.folding.fold_slice.Goals as goal

pub fold_band-requires-clause-component : goal.fold_band-requires-clause-component
fold_band-requires-clause-component c =
    let h = c.args.header.now in
    let number = c.loop-number.number in
    let component = c.kind.ensures.component ∙ ap (λ g. band_component g number) c.of-geometry.ensures in
    omega (arith, component, component_there h number, c.requires.bands.count)

pub fold_band-requires-clause-there : goal.fold_band-requires-clause-there
fold_band-requires-clause-there c line has =
    let h = c.args.header.now in
    let bands = c.args.bands.now in
    let number = c.loop-number.number in
    let kind = c.kind.result in
    let component : kind.component ≡ band_component h number = c.kind.ensures.component ∙ ap (λ g. band_component g number) c.of-geometry.ensures in
    let type : type_of kind ≡ band_type_of h number = c.kind.ensures.band_type ∙ ap (λ g. band_type_of g number) c.of-geometry.ensures in
    let is : rows_of_kind bands kind ≡ plane_of_band h bands number = ap (λ k. rows_of_component bands k (type_of kind)) component ∙ ap (rows_of_component bands (band_component h number)) type in
    let deep : h.nly ≤ h.nlx = omega (arith, c.requires.accepted.geometry.nly) in
    subst (λ p. line < length p) (sym is) (line_inside h bands c.args.slice c.loop-number.rows number line c.requires.accepted.geometry.hsl deep c.requires.bands c.loop-number.invariant.lines has).0

pub fold_band-requires-clause-wide : goal.fold_band-requires-clause-wide
fold_band-requires-clause-wide c line has =
    let h = c.args.header.now in
    let bands = c.args.bands.now in
    let number = c.loop-number.number in
    let kind = c.kind.result in
    let component : kind.component ≡ band_component h number = c.kind.ensures.component ∙ ap (λ g. band_component g number) c.of-geometry.ensures in
    let type : type_of kind ≡ band_type_of h number = c.kind.ensures.band_type ∙ ap (λ g. band_type_of g number) c.of-geometry.ensures in
    let is : rows_of_kind bands kind ≡ plane_of_band h bands number = ap (λ k. rows_of_component bands k (type_of kind)) component ∙ ap (rows_of_component bands (band_component h number)) type in
    let deep : h.nly ≤ h.nlx = omega (arith, c.requires.accepted.geometry.nly) in
    ap (λ p. length (get_or p line [])) is ∙ (line_inside h bands c.args.slice c.loop-number.rows number line c.requires.accepted.geometry.hsl deep c.requires.bands c.loop-number.invariant.lines has).1

pub loop-number-preserved : goal.loop-number-preserved
loop-number-preserved c =
    let h = c.args.header.now in
    let bands = c.args.bands.now in
    let number = c.loop-number.number in
    let kind = c.kind.result in
    let component : kind.component ≡ band_component h number = c.kind.ensures.component ∙ ap (λ g. band_component g number) c.of-geometry.ensures in
    let type : type_of kind ≡ band_type_of h number = c.kind.ensures.band_type ∙ ap (λ g. band_type_of g number) c.of-geometry.ensures in
    let is : rows_of_kind bands kind ≡ plane_of_band h bands number = ap (λ k. rows_of_component bands k (type_of kind)) component ∙ ap (rows_of_component bands (band_component h number)) type in
    let deep : h.nly ≤ h.nlx = omega (arith, c.requires.accepted.geometry.nly) in
    rows_more h bands c.args.slice number (rows_of_kind bands kind) c.loop-number.rows c.fold_band.new.rows c.requires.accepted.geometry.hsl deep c.requires.bands is c.fold_band.ensures c.loop-number.invariant
