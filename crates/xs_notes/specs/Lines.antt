-- The line of a note: 'Notes'.
use Rattle.std.specs.Prelude.{ℕ, ◌/◌, ◌%◌, ◌^◌, ◌≢◌, ⊤, List, [], ◌∷◌, ◌++◌, codes, decimal, flat_map}
use Rattle.std.specs.Char.{digit_char}
use Rattle.xs_params.specs.declared.settings.Field.{Field}
use Rattle.xs_params.specs.declared.settings.Field.TheVariants as setting
use Rattle.xs_faults.specs.declared.HeadField.{HeadField}
use Rattle.xs_faults.specs.declared.HeadField.TheVariants as header
use Rattle.xs_faults.specs.declared.HeadFault.{HeadFault}
use Rattle.xs_faults.specs.declared.HeadFault.TheVariants as head
use Rattle.xs_faults.specs.declared.Part.{Part}
use Rattle.xs_faults.specs.declared.Part.TheVariants as part
use Rattle.xs_faults.specs.declared.PrecinctFault.{PrecinctFault}
use Rattle.xs_faults.specs.declared.PrecinctFault.TheVariants as precinct
use Rattle.xs_faults.specs.declared.SliceFault.{SliceFault}
use Rattle.xs_faults.specs.declared.SliceFault.TheVariants as slice
use Rattle.xs_faults.specs.Names.{NamesSliceFault}
use Rattle.xs_notes.specs.declared.note.Note.{Note}
use Rattle.xs_notes.specs.declared.note.Note.TheVariants as note

-- a number of 16 bits in four lower-case hexadecimal digits
abbrev pub hex : ℕ → List ℕ
hex code = digit_char (code / 0x1000 % 16) ∷ digit_char (code / 0x100 % 16) ∷ digit_char (code / 0x10 % 16) ∷ digit_char (code % 16) ∷ []

-- a setting is named as its option
abbrev pub setting_name : Field → List ℕ
setting_name setting.Width = codes "width"
setting_name setting.Height = codes "height"
setting_name setting.Depth = codes "depth"
setting_name setting.Bits = codes "bits"
setting_name setting.Nlx = codes "nlx"
setting_name setting.Nly = codes "nly"
setting_name setting.Hsl = codes "slice"
setting_name setting.Colour = codes "colour"
setting_name setting.Weights = codes "weights"
setting_name setting.Chunk = codes "chunk"
setting_name setting.Share = codes "share"
setting_name setting.PayloadType = codes "pt"
setting_name setting.FirstTimestamp = codes "time"
setting_name setting.Step = codes "step"
setting_name setting.Boxes = codes "boxes"
setting_name setting.Workers = codes "workers"
setting_name setting.Feeders = codes "feeders"
setting_name setting.Port = codes "port"

-- a field of a header
abbrev pub field_name : HeadField → List ℕ
field_name header.Wf = codes "wf"
field_name header.Hf = codes "hf"
field_name header.Area = codes "area"
field_name header.Cw = codes "cw"
field_name header.Hsl = codes "hsl"
field_name header.Nc = codes "nc"
field_name header.Ng = codes "ng"
field_name header.Ss = codes "ss"
field_name header.Bw = codes "bw"
field_name header.Fq = codes "fq"
field_name header.Br = codes "br"
field_name header.Fslc = codes "fslc"
field_name header.Ppoc = codes "ppoc"
field_name header.Cpih = codes "cpih"
field_name header.Nlx = codes "nlx"
field_name header.Nly = codes "nly"
field_name header.Slices = codes "slices"
field_name header.Qpih = codes "qpih"
field_name header.Fs = codes "fs"
field_name header.Rm = codes "rm"
field_name header.Bc = codes "bc"
field_name header.Sx = codes "sx"
field_name header.Sy = codes "sy"
field_name header.Narrow = codes "narrow"

-- a part of a packet
abbrev pub part_name : Part → List ℕ
part_name part.Head = codes "head"
part_name part.Significance = codes "significance"
part_name part.Counts = codes "counts"
part_name part.Data = codes "data"
part_name part.Signs = codes "signs"

-- Faults; want of memory is never in a note, and has no text

abbrev pub head_text : HeadFault → List ℕ
head_text (head.Truncated place) = codes "truncated " ++ decimal place
head_text (head.Marker code place) = codes "marker " ++ hex code ++ codes " " ++ decimal place
head_text (head.Segment code place) = codes "segment " ++ hex code ++ codes " " ++ decimal place
head_text (head.Length code length) = codes "length " ++ hex code ++ codes " " ++ decimal length
head_text (head.Unsupported field value) = codes "unsupported " ++ field_name field ++ codes " " ++ decimal value
head_text (head.Twice code) = codes "twice " ++ hex code
head_text (head.Absent code) = codes "absent " ++ hex code
head_text (head.BoxLength length place) = codes "box " ++ decimal length ++ codes " " ++ decimal place
head_text head.Memory = []

abbrev pub precinct_text : PrecinctFault → List ℕ
precinct_text precinct.Truncated = codes "truncated"
precinct_text (precinct.Overrun packet part) = codes "packet " ++ decimal packet ++ codes " overrun " ++ part_name part
precinct_text (precinct.Count packet value) = codes "packet " ++ decimal packet ++ codes " count " ++ decimal value
precinct_text precinct.Memory = []

abbrev pub slice_text : SliceFault → List ℕ
slice_text slice.Short = codes "short"
slice_text slice.Head = codes "head"
slice_text (slice.Precinct number fault) = codes "precinct " ++ decimal number ++ codes " " ++ precinct_text fault
slice_text (slice.Trailing place) = codes "trailing " ++ decimal place
slice_text slice.End = codes "end"
slice_text slice.Memory = []

-- the text of a note
abbrev pub note_text : Note → List ℕ
note_text (note.Words place) = codes "words " ++ decimal place
note_text (note.Setting refused) = codes "setting " ++ setting_name refused.field ++ codes " " ++ decimal refused.value
note_text (note.InputCut place) = codes "input cut " ++ decimal place
note_text (note.InputSample place) = codes "input sample " ++ decimal place
note_text (note.InputLimit limit) = codes "input limit " ++ decimal limit
note_text (note.InputPictures count) = codes "input pictures " ++ decimal count
note_text (note.InputMagic value) = codes "input magic " ++ hex (value / 2 ^ 16) ++ hex (value % 2 ^ 16)
note_text (note.InputLink value) = codes "input link " ++ decimal value
note_text (note.Budget picture slice size share) =
    codes "budget picture " ++ decimal picture ++ codes " slice " ++ decimal slice ++ codes " size " ++ decimal size ++ codes " share " ++ decimal share
note_text (note.MissingHeader picture) = codes "missing picture " ++ decimal picture ++ codes " header"
note_text (note.MissingSlice picture slice) = codes "missing picture " ++ decimal picture ++ codes " slice " ++ decimal slice
note_text (note.DamagedHeader picture fault) = codes "damaged picture " ++ decimal picture ++ codes " header " ++ head_text fault
note_text (note.DamagedSlice picture slice fault) = codes "damaged picture " ++ decimal picture ++ codes " slice " ++ decimal slice ++ codes " " ++ slice_text fault
note_text (note.DamagedLength picture stated actual) =
    codes "damaged picture " ++ decimal picture ++ codes " length " ++ decimal stated ++ codes " " ++ decimal actual
note_text (note.Stepped count) = codes "stepped " ++ decimal count
note_text note.ReadFault = codes "read fault"

-- its line ends with a line feed
abbrev pub note_line : Note → List ℕ
note_line said = note_text said ++ codes "\n"

abbrev pub note_lines : List Note → List ℕ
note_lines notes = flat_map note_line notes

-- No fault inside is want of memory

abbrev pub NamesFault : Note → Type 0
NamesFault (note.DamagedHeader picture fault) = fault ≢ head.Memory
NamesFault (note.DamagedSlice picture slice fault) = NamesSliceFault fault
NamesFault (note.Words place) = ⊤
NamesFault (note.Setting refused) = ⊤
NamesFault (note.InputCut place) = ⊤
NamesFault (note.InputSample place) = ⊤
NamesFault (note.InputLimit limit) = ⊤
NamesFault (note.InputPictures count) = ⊤
NamesFault (note.InputMagic value) = ⊤
NamesFault (note.InputLink value) = ⊤
NamesFault (note.Budget picture slice size share) = ⊤
NamesFault (note.MissingHeader picture) = ⊤
NamesFault (note.MissingSlice picture slice) = ⊤
NamesFault (note.DamagedLength picture stated actual) = ⊤
NamesFault (note.Stepped count) = ⊤
NamesFault note.ReadFault = ⊤
