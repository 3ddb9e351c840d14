use Rattle.std.proofs.Common.{◌≡◌, ◌≢◌, sym, ap, subst, ◌∙◌}
use Rattle.std.specs.Prelude.{◌⊎◌, Some}
use Rattle.xs_params.specs.declared.header.Header.{Header}
use Rattle.xs_params.specs.Geometry.{slice_count}
use Rattle.xs_faults.specs.declared.StreamFault.TheVariants as fault
use Rattle.xs_markers.specs.Read.{IsHeaderRead}
use Rattle.xs_picture.specs.Faults.{stream_fault}
use Rattle.xs_picture.specs.StreamRead.{AreSlicesRead}
use Rattle.xs_picture.proofs.Results.{err_holds}
use Rattle.xs_picture.proofs.StreamsRead.{end_refused, length_refused, slices_refused, stream_read}
use Rattle.xs_picture.proofs.decode.reader.read_stream.Goals as goal

pub returns-in_err-coefs-clause-refused : goal.returns-in_err-coefs-clause-refused
returns-in_err-coefs-clause-refused c =
    let bytes = c.args.bytes.now in
    let f = c.in_err-coefs.field-0.0 in
    err_holds (λ f. f ≢ fault.Memory → stream_fault bytes ≡ Some f) c.from_residual-in_err-coefs.result f c.from_residual-in_err-coefs.ensures.1
    (λ other. slices_refused c.in_ok-header.header bytes c.in_ok-header.start f c.in_ok-header.ensures.read (c.in_err-coefs.ensures.refused other))

pub returns-in_err-end-clause-refused : goal.returns-in_err-end-clause-refused
returns-in_err-end-clause-refused c =
    let bytes = c.args.bytes.now in
    let f = c.in_err-end.field-0.0 in
    err_holds (λ f. f ≢ fault.Memory → stream_fault bytes ≡ Some f) c.from_residual-in_err-end.result f c.from_residual-in_err-end.ensures.1
    (λ other. end_refused c.in_ok-header.header bytes c.in_ok-header.start c.in_ok-coefs.coefs.slices c.in_ok-coefs.place f c.in_ok-header.ensures.read c.in_ok-coefs.ensures.read (sym c.in_err-end.ensures.first))

pub returns-in_err-check_length-clause-refused : goal.returns-in_err-check_length-clause-refused
returns-in_err-check_length-clause-refused c =
    let h = c.in_ok-header.header in
    let bytes = c.args.bytes.now in
    let f = c.in_err-check_length.field-0.0 in
    let e = c.in_err-check_length.ensures in
    let stated : c.header.result.now.lcod ≡ h.lcod = ap (λ (x : Header). x.lcod) (c.header.ensures ∙ c.in_ok-coefs.ensures.header) in
    err_holds (λ f. f ≢ fault.Memory → stream_fault bytes ≡ Some f) c.from_residual-in_err-check_length.result f c.from_residual-in_err-check_length.ensures.1
    (λ other. length_refused h bytes c.in_ok-header.start c.in_ok-coefs.coefs.slices c.in_ok-coefs.place c.in_ok-end.end c.in_ok-header.ensures.read c.in_ok-coefs.ensures.read (sym c.in_ok-end.ensures.first) c.in_ok-end.ensures.place (λ z. e.0 (stated ∙ z)) (λ z. e.1 (stated ∙ z))
    ∙ ap (λ n. Some (fault.Lcod n c.in_ok-end.end)) (sym stated) ∙ ap Some (sym e.2))

pub returns-clause-read : goal.returns-clause-read
returns-clause-read c =
    let coefs = c.in_ok-coefs.coefs in
    let bytes = c.args.bytes.now in
    let start = c.in_ok-header.start in
    let place = c.in_ok-coefs.place in
    let end = c.in_ok-end.end in
    let same = sym c.in_ok-coefs.ensures.header in
    let length : (coefs.header.lcod ≡ 0) ⊎ (coefs.header.lcod ≡ end) = subst (λ (x : Header). (x.lcod ≡ 0) ⊎ (x.lcod ≡ end)) c.header.ensures c.in_ok-check_length.ensures in
    stream_read coefs bytes start place end (subst (λ x. IsHeaderRead x bytes start) same c.in_ok-header.ensures.read) c.in_ok-end.ensures.within
    (subst (λ x. AreSlicesRead x bytes start (slice_count x) coefs.slices place) same c.in_ok-coefs.ensures.read) (sym c.in_ok-end.ensures.first) c.in_ok-end.ensures.read c.in_ok-end.ensures.place length
