-- A page and a board with one part replaced, all else kept.
use Rattle.std.specs.Prelude.{ℕ, List}
use Rattle.board.specs.declared.Starts.{Starts}
use Rattle.board.specs.declared.Video.{Video}
use Rattle.board.specs.declared.Page.{Page}
use Rattle.board.specs.declared.Place.{Place}
use Rattle.board.specs.declared.Board.{Board}

abbrev pub with_version : Page → ℕ → Page
with_version p x = record { version = x; irs = p.irs; starts = p.starts; switches = p.switches; video = p.video }

abbrev pub with_irs : Page → List ℕ → Page
with_irs p x = record { version = p.version; irs = x; starts = p.starts; switches = p.switches; video = p.video }

abbrev pub with_starts : Page → Starts → Page
with_starts p x = record { version = p.version; irs = p.irs; starts = x; switches = p.switches; video = p.video }

abbrev pub with_switches : Page → ℕ → Page
with_switches p x = record { version = p.version; irs = p.irs; starts = p.starts; switches = x; video = p.video }

abbrev pub with_video : Page → Video → Page
with_video p x = record { version = p.version; irs = p.irs; starts = p.starts; switches = p.switches; video = x }

abbrev pub with_page : Board → Page → Board
with_page b x = record { page = x; place = b.place; pointer = b.pointer; resets = b.resets }

abbrev pub with_place : Board → Place → Board
with_place b x = record { page = b.page; place = x; pointer = b.pointer; resets = b.resets }

abbrev pub with_pointer : Board → ℕ → Board
with_pointer b x = record { page = b.page; place = b.place; pointer = x; resets = b.resets }

abbrev pub with_resets : Board → ℕ → Board
with_resets b x = record { page = b.page; place = b.place; pointer = b.pointer; resets = x }
