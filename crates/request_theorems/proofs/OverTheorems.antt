-- The writers over a written path answer and leave what the writers over a list do, where the path is that list's bytes. Assumes nothing.
use Prim.Native.Nat.{ℕ, ◌+◌}
use mathlib.Core.Path.{◌≡◌, refl, sym, ap, ◌∙◌}
use mathlib.Core.List.{List, map}
use native.Mathlib.Omega.{arith}
use lib.ListN.{length}
use Rattle.wire.specs.Answers.{Answer, done, refused, and_then, with_room, written, within_limit}
use Rattle.wire.proofs.Rules.{never, all_keep, then_done}
use Rattle.wire.proofs.Answers.{room_kept}
use Rattle.epath_sizes.specs.Limits.{max_segments}
use Rattle.epath_sizes.specs.Segments.{encode, norm}
use Rattle.epath_sizes.specs.Lists.{slots_of, segs_of}
use Rattle.epath_sizes.specs.Sizes.{path_size}
use Rattle.epath_sizes.specs.declared.Path.{Path}
use Rattle.epath_sizes.specs.declared.Slot.{Slot}
use Rattle.epath_sizes.proofs.PathLaws.{PathSized, path_sized}
use Rattle.epath_encode.proofs.Theorems.{answer_of, left_front}
use Rattle.epath_check.specs.Paths.{walk, count_of, check_path, sees, parse_path}
use Rattle.epath.proofs.Theorems.{AllRanged, write_then_read}
use Rattle.connection.specs.Limits.{max_record}
use Rattle.connection.specs.declared.UnconnectedSend.{UnconnectedSend}
use Rattle.connection_words.specs.Requests.{message_bytes, send_bytes}
use Rattle.route.specs.Routes.{route_size}
use Rattle.route.proofs.RouteLaws.{RouteSized, route_sized}
use Rattle.route_written.specs.Written.{written_route, over_size}
use Rattle.request_sizes.specs.Sizes.{message_size, send_size}
use Rattle.message_over.specs.Over.{message_over_size}
use Rattle.send_over.specs.Over.{send_over_size}

-- writers of the same bytes, the one sized as x and the other as y: one answer, and one content of the output
abbrev pub Alike : Answer ℕ → Answer ℕ → List ℕ → List ℕ → Type 0
Alike x y bytes old =
    (with_room x (length old) ≡ with_room y (length old)) × (written (with_room x (length old)) bytes old ≡ written (with_room y (length old)) bytes old)

alike : (x y : Answer ℕ) (bytes old : List ℕ) → x ≡ y → Alike x y bytes old
alike x y bytes old e = (rw e, rw e)

-- a list that is sized, whose numbers are such as the code's types hold
module _ (pool : List ℕ) (p : Path) (n : ℕ) (ranged : AllRanged (slots_of p)) (h : route_size pool p ≡ done n) where
  abbrev pub bytes_of : List ℕ
  bytes_of = encode (segs_of pool p)

  -- its bytes are judged as the list is
  pub written_list : written_route bytes_of ≡ done n
  unfolding written_route check_path
  written_list = go (walk max_segments bytes_of 0) refl
    where
      sized : RouteSized pool p n
      sized = route_sized pool p n h

      long : PathSized pool p n
      long = path_sized pool p n sized.is

      fits : answer_of pool p bytes_of ≡ done n
      fits = room_kept (path_size pool p) (length bytes_of) n sized.is (omega (arith, long.size))

      read : parse_path bytes_of ≡ done (map norm (segs_of pool p))
      read = ap parse_path (sym (left_front pool p bytes_of n fits)) ∙ write_then_read pool p bytes_of n ranged fits

      go : (w : Answer (List Slot)) → walk max_segments bytes_of 0 ≡ w → written_route bytes_of ≡ done n
      go (refused k) e = never (sym (ap (sees bytes_of) e) ∙ read)
      go (done v) e =
          all_keep _ _ (omega (arith, sized.short, long.size), tt)
          ∙ then_done _ _ (length v) (ap count_of e)
          ∙ ap done (sym long.size)

  message_size_same : (d : ℕ) → message_over_size bytes_of d ≡ message_size pool p d
  unfolding over_size message_size
  message_size_same d = ap (λ (x : Answer ℕ). and_then x (λ k. within_limit max_record (2 + k + d))) (written_list ∙ sym h)

  send_size_same : (m : ℕ) → send_over_size bytes_of m ≡ send_size pool p m
  unfolding over_size send_size
  send_size_same m =
      then_done _ _ n written_list
      ∙ ap (within_limit max_record) (omega arith)
      ∙ sym (then_done _ _ n h)

  -- so the answer and what is left are the same
  pub message_over_same : (service : ℕ) (content old : List ℕ)
      → Alike (message_over_size bytes_of (length content)) (message_size pool p (length content)) (message_bytes service bytes_of content) old
  message_over_same service content old = alike _ _ (message_bytes service bytes_of content) old (message_size_same (length content))

  pub send_over_same : (u : UnconnectedSend) (message old : List ℕ)
      → Alike (send_over_size bytes_of (length message)) (send_size pool p (length message)) (send_bytes u message bytes_of) old
  send_over_same u message old = alike _ _ (send_bytes u message bytes_of) old (send_size_same (length message))
