use Rattle.std.proofs.Common.{◌≡◌, length}
use Rattle.xs_picture.specs.Analysed.{IsGiven}
use Rattle.xs_picture.proofs.encode.colours.analyse_colours.Given as goal

abbrev pub invariant-lines : goal.invariant-lines
invariant-lines l = record {
  luma : IsGiven l.header l.picture 0 0 l.line l.luma;
  first : IsGiven l.header l.picture 1 0 l.line l.first;
  second : IsGiven l.header l.picture 2 0 l.line l.second;
  luma_width : length l.rows.luma.items ≡ l.header.shape.width;
  first_width : length l.rows.first.items ≡ l.header.shape.width;
  second_width : length l.rows.second.items ≡ l.header.shape.width;
}
