-- How a component is split, from what code holds: '5/3 wavelet'.
use Rattle.xs_signal.specs.Wavelet.{Split}
use Rattle.xs_wave.specs.declared.levels.Levels.{Levels}

abbrev pub split_by : Levels → Split
split_by l = record { width = l.width; height = l.height; across = l.across; down = l.down }
