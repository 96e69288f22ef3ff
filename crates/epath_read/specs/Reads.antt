-- What the reader of a path answers: how many segments, and their list. Assumes nothing: these are definitions.
use Rattle.std.specs.Prelude.{ℕ, List, [], Result, Ok, Err}
use Rattle.wire.specs.Answers.{Answer, done, refused}
use Rattle.wire.specs.Refusals.{number}
use Rattle.wire.specs.declared.Refusal.{Refusal}
use Rattle.epath_sizes.specs.Limits.{max_segments}
use Rattle.epath_sizes.specs.Lists.{path_of}
use Rattle.epath_sizes.specs.declared.Path.{Path}
use Rattle.epath_check.specs.Paths.{walk, count_of, list_of}

pub record PathFound : Type 0 where
  pub answer : Answer ℕ
  pub path : Path

abbrev pub paper_path : Result Path Refusal → PathFound
paper_path (Ok p) = record { answer = done p.count; path = p }
paper_path (Err e) = record { answer = refused (number e); path = path_of [] }

unfoldable pub read_path : List ℕ → PathFound
read_path s = record { answer = count_of (walk max_segments s 0); path = path_of (list_of (walk max_segments s 0)) }
