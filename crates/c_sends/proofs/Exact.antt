-- Each public function takes every argument, and its contract leaves one answer and one content of what is lent.
-- Assumes nothing.
use Rattle.exact.specs.Exact.{Exact, exact, says, same}
use Rattle.c_sends.specs.contracts.bark_write_unconnected_send
use Rattle.c_sends.specs.contracts.bark_read_unconnected_send

pub bark_write_unconnected_send_exact : Exact bark_write_unconnected_send.ended (λ _ _. bark_write_unconnected_send.clauses)
bark_write_unconnected_send_exact = exact (λ w κs a. (tt, λ m. tt)) (λ w κs a g z e. search says) (λ t.
    (same t.said.0 t.said'.0, λ i. (tt, (tt, (tt, (tt, (same t.said.1 t.said'.1 i, tt)))))))

pub bark_read_unconnected_send_exact : Exact bark_read_unconnected_send.ended (λ _ _. bark_read_unconnected_send.clauses)
bark_read_unconnected_send_exact = exact (λ w κs a. (tt, λ m. tt)) (λ w κs a g z e. search says) (λ t.
    (same t.said.0 t.said'.0, λ i. (tt, (same t.said.1 t.said'.1 i, tt))))
