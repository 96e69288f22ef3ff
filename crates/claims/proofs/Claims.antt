-- Every public function of the product, and what is claimed of each: its contract, as it stands in the source, takes every argument and leaves
-- one answer and one content of each lent buffer (`Exact`; `ExactBy` where the answer is a reference: one content of what it refers to).
-- The proofs stand in each crate's proofs/Exact.antt. Assumes nothing.
use Rattle.exact.specs.Exact.{Exact, ExactBy}
use Rattle.wire.specs.contracts.refusal_number
use Rattle.wire.proofs.Exact as Wire
use Rattle.wire_read.specs.contracts.byte_at
use Rattle.wire_read.specs.contracts.u16_at
use Rattle.wire_read.specs.contracts.u32_at
use Rattle.wire_read.specs.contracts.part_of
use Rattle.wire_read.proofs.Exact as WireRead
use Rattle.wire_write.specs.contracts.put_byte
use Rattle.wire_write.specs.contracts.put_u16
use Rattle.wire_write.specs.contracts.put_u32
use Rattle.wire_write.specs.contracts.put_bytes
use Rattle.wire_write.proofs.Exact as WireWrite
use Rattle.hex_digits.specs.contracts.hex_digit
use Rattle.hex_digits.proofs.Exact as Hex
use Rattle.lines.specs.contracts.blank_line
use Rattle.lines.specs.contracts.line_case
use Rattle.lines.proofs.Exact as Lines
use Rattle.line_chars.specs.contracts.take_char
use Rattle.line_chars.proofs.Exact as LineChars
use Rattle.epath_sizes.specs.contracts.segment_size
use Rattle.epath_sizes.proofs.Exact as EpathSizes
use Rattle.path_sizes.specs.contracts.path_size
use Rattle.path_sizes.proofs.Exact as PathSizes
use Rattle.epath_encode.specs.contracts.write_segment
use Rattle.epath_encode.specs.contracts.write_path
use Rattle.epath_encode.proofs.Exact as EpathEncode
use Rattle.epath_lists.specs.contracts.blank_path
use Rattle.epath_lists.specs.contracts.default_port
use Rattle.epath_lists.specs.contracts.is_port
use Rattle.epath_lists.proofs.Exact as EpathLists
use Rattle.epath_segment.specs.contracts.read_segment
use Rattle.epath_segment.proofs.Exact as EpathSegment
use Rattle.epath_check.specs.contracts.check_path
use Rattle.epath_check.proofs.Exact as EpathCheck
use Rattle.epath_read.specs.contracts.read_path
use Rattle.epath_read.proofs.Exact as EpathRead
use Rattle.connection.specs.contracts.default_parameters
use Rattle.connection.specs.contracts.default_options
use Rattle.connection.specs.contracts.ConnectionTypeTryFromU8.try_from as connection_type
use Rattle.connection.specs.contracts.PriorityTryFromU8.try_from as priority
use Rattle.connection.specs.contracts.DirectionFromBool.from as direction
use Rattle.connection.specs.contracts.TriggerTypeTryFromU8.try_from as trigger
use Rattle.connection.specs.contracts.TransportClassTryFromU8.try_from as class
use Rattle.connection.specs.contracts.VariableLengthFromBool.from as variable
use Rattle.connection.specs.contracts.priority_tick_time
use Rattle.connection.proofs.Exact as Connection
use Rattle.connection_words.specs.contracts.encode_parameters
use Rattle.connection_words.specs.contracts.decode_parameters
use Rattle.connection_words.specs.contracts.parameter_width
use Rattle.connection_words.proofs.Exact as ConnectionWords
use Rattle.transport_words.specs.contracts.transport_class_trigger
use Rattle.transport_words.specs.contracts.transport_of
use Rattle.transport_words.specs.contracts.transport_byte
use Rattle.transport_words.proofs.Exact as TransportWords
use Rattle.triads.specs.contracts.put_triad
use Rattle.triads.proofs.Exact as Triads
use Rattle.route.specs.contracts.route_size
use Rattle.route.proofs.Exact as Route
use Rattle.default_path.specs.contracts.default_connection_path
use Rattle.default_path.proofs.Exact as DefaultPath
use Rattle.open_sizes.specs.contracts.forward_open_size
use Rattle.open_sizes.specs.contracts.open_base
use Rattle.open_sizes.specs.contracts.front_size
use Rattle.open_sizes.proofs.Exact as OpenSizes
use Rattle.close_sizes.specs.contracts.forward_close_size
use Rattle.close_sizes.proofs.Exact as CloseSizes
use Rattle.open_encode.specs.contracts.write_forward_open
use Rattle.open_encode.specs.contracts.write_forward_open_over
use Rattle.open_encode.proofs.Exact as OpenEncode
use Rattle.close_fields.specs.contracts.put_close_fields
use Rattle.close_fields.proofs.Exact as CloseFields
use Rattle.close_encode.specs.contracts.write_forward_close
use Rattle.close_encode.proofs.Exact as CloseEncode
use Rattle.close_over.specs.contracts.write_forward_close_over
use Rattle.close_over.proofs.Exact as CloseOver
use Rattle.request_sizes.specs.contracts.message_size
use Rattle.request_sizes.specs.contracts.unconnected_send_size
use Rattle.request_sizes.proofs.Exact as RequestSizes
use Rattle.message_encode.specs.contracts.write_message
use Rattle.message_encode.proofs.Exact as MessageEncode
use Rattle.message_over.specs.contracts.write_message_over
use Rattle.message_over.proofs.Exact as MessageOver
use Rattle.send_fields.specs.contracts.put_send_fields
use Rattle.send_fields.proofs.Exact as SendFields
use Rattle.send_encode.specs.contracts.write_unconnected_send
use Rattle.send_encode.proofs.Exact as SendEncode
use Rattle.send_over.specs.contracts.write_unconnected_send_over
use Rattle.send_over.proofs.Exact as SendOver
use Rattle.request_first.specs.contracts.first_byte
use Rattle.request_first.proofs.Exact as RequestFirst
use Rattle.message_read.specs.contracts.read_message
use Rattle.message_read.specs.contracts.route_at
use Rattle.message_read.specs.contracts.padded_route_at
use Rattle.message_read.proofs.Exact as MessageRead
use Rattle.open_read.specs.contracts.read_forward_open
use Rattle.open_read.proofs.Exact as OpenRead
use Rattle.close_read.specs.contracts.read_forward_close
use Rattle.close_read.proofs.Exact as CloseRead
use Rattle.send_read.specs.contracts.read_unconnected_send
use Rattle.send_read.proofs.Exact as SendRead
use Rattle.statuses.specs.contracts.is_ok
use Rattle.statuses.specs.contracts.is_routing_error
use Rattle.statuses.proofs.Exact as Statuses
use Rattle.reply_header.specs.contracts.read_reply_header
use Rattle.reply_header.proofs.Exact as ReplyHeader
use Rattle.success_encode.specs.contracts.write_forward_open_success
use Rattle.success_encode.specs.contracts.write_forward_close_success
use Rattle.success_encode.proofs.Exact as SuccessEncode
use Rattle.failure_encode.specs.contracts.write_forward_failure
use Rattle.failure_encode.proofs.Exact as FailureEncode
use Rattle.reply_read.specs.contracts.read_forward_open_reply
use Rattle.reply_read.specs.contracts.read_forward_close_reply
use Rattle.reply_read.proofs.Exact as ReplyRead
use Rattle.envelope.specs.contracts.read_envelope
use Rattle.envelope.proofs.Exact as Envelope
use Rattle.frames.specs.contracts.reset_state
use Rattle.frames.specs.contracts.step
use Rattle.frames.specs.contracts.take_scrap
use Rattle.frames.specs.contracts.reset
use Rattle.frames.proofs.Exact as Frames
use Rattle.body_sizes.specs.contracts.body_size
use Rattle.body_sizes.proofs.Exact as BodySizes
use Rattle.body_encode.specs.contracts.write_body
use Rattle.body_encode.proofs.Exact as BodyEncode
use Rattle.body_read.specs.contracts.read_body
use Rattle.body_read.proofs.Exact as BodyRead
use Rattle.body_items.specs.contracts.walk_item
use Rattle.body_items.specs.contracts.body_item
use Rattle.body_items.proofs.Exact as BodyItems
use Rattle.body_replies.specs.contracts.walk_reply
use Rattle.body_replies.specs.contracts.reply_item
use Rattle.body_replies.proofs.Exact as BodyReplies
use Rattle.body_join.specs.contracts.join_bodies
use Rattle.body_join.proofs.Exact as BodyJoin
use Rattle.nested.specs.contracts.read_nested
use Rattle.nested.proofs.Exact as Nested
use Rattle.dump_text.specs.contracts.write_dump
use Rattle.dump_text.proofs.Exact as DumpText
use Rattle.c_answers.specs.contracts.refusal_answer
use Rattle.c_answers.specs.contracts.size_answer
use Rattle.c_answers.specs.contracts.count_answer
use Rattle.c_answers.specs.contracts.fill
use Rattle.c_answers.proofs.Exact as CAnswers
use Rattle.route_written.specs.contracts.written_route
use Rattle.route_written.specs.contracts.written_record
use Rattle.route_written.proofs.Exact as RouteWritten
use Rattle.c_paths.specs.contracts.bark_path_size
use Rattle.c_paths.specs.contracts.bark_write_path
use Rattle.c_paths.proofs.Exact as CPaths
use Rattle.c_path_checks.specs.contracts.bark_check_path
use Rattle.c_path_checks.proofs.Exact as CPathChecks
use Rattle.c_path_reads.specs.contracts.bark_read_path
use Rattle.c_path_reads.proofs.Exact as CPathReads
use Rattle.c_messages.specs.contracts.bark_write_message
use Rattle.c_messages.specs.contracts.bark_read_message
use Rattle.c_messages.proofs.Exact as CMessages
use Rattle.c_sends.specs.contracts.bark_write_unconnected_send
use Rattle.c_sends.specs.contracts.bark_read_unconnected_send
use Rattle.c_sends.proofs.Exact as CSends
use Rattle.c_forward_words.specs.contracts.bark_encode_parameters
use Rattle.c_forward_words.specs.contracts.bark_decode_parameters
use Rattle.c_forward_words.proofs.Exact as CForwardWords
use Rattle.c_transport_words.specs.contracts.bark_encode_transport
use Rattle.c_transport_words.specs.contracts.bark_decode_transport
use Rattle.c_transport_words.proofs.Exact as CTransportWords
use Rattle.c_opens.specs.contracts.bark_read_forward_open
use Rattle.c_opens.specs.contracts.bark_default_forward_open
use Rattle.c_opens.proofs.Exact as COpens
use Rattle.c_open_writes.specs.contracts.bark_write_forward_open
use Rattle.c_open_writes.proofs.Exact as COpenWrites
use Rattle.c_closes.specs.contracts.bark_read_forward_close
use Rattle.c_closes.specs.contracts.bark_write_forward_close
use Rattle.c_closes.proofs.Exact as CCloses
use Rattle.c_reply_numbers.specs.contracts.reply_numbers
use Rattle.c_reply_numbers.proofs.Exact as CReplyNumbers
use Rattle.c_replies.specs.contracts.bark_read_reply
use Rattle.c_replies.proofs.Exact as CReplies
use Rattle.c_statuses.specs.contracts.status_of
use Rattle.c_statuses.specs.contracts.bark_is_routing_error
use Rattle.c_statuses.proofs.Exact as CStatuses
use Rattle.c_envelope.specs.contracts.bark_read_envelope
use Rattle.c_envelope.proofs.Exact as CEnvelope
use Rattle.c_frames.specs.contracts.bark_take_scrap
use Rattle.c_frames.proofs.Exact as CFrames
use Rattle.c_failure_numbers.specs.contracts.failure_numbers
use Rattle.c_failure_numbers.proofs.Exact as CFailureNumbers
use Rattle.c_open_replies.specs.contracts.bark_read_forward_open_reply
use Rattle.c_open_replies.proofs.Exact as COpenReplies
use Rattle.c_close_replies.specs.contracts.bark_read_forward_close_reply
use Rattle.c_close_replies.proofs.Exact as CCloseReplies
use Rattle.c_reply_writes.specs.contracts.bark_write_forward_open_success
use Rattle.c_reply_writes.specs.contracts.bark_write_forward_close_success
use Rattle.c_reply_writes.proofs.Exact as CReplyWrites
use Rattle.c_failure_writes.specs.contracts.bark_write_forward_failure
use Rattle.c_failure_writes.proofs.Exact as CFailureWrites
use Rattle.c_bodies.specs.contracts.bark_write_body
use Rattle.c_bodies.specs.contracts.bark_join_bodies
use Rattle.c_bodies.proofs.Exact as CBodies
use Rattle.c_body_reads.specs.contracts.bark_read_body
use Rattle.c_body_reads.specs.contracts.bark_body_item
use Rattle.c_body_reads.specs.contracts.bark_walk_item
use Rattle.c_body_reads.proofs.Exact as CBodyReads
use Rattle.c_body_replies.specs.contracts.bark_reply_item
use Rattle.c_body_replies.specs.contracts.bark_walk_reply
use Rattle.c_body_replies.proofs.Exact as CBodyReplies
use Rattle.c_reply_walk.specs.contracts.bark_read_replies
use Rattle.c_reply_walk.proofs.Exact as CReplyWalk
use Rattle.c_nested.specs.contracts.bark_read_nested
use Rattle.c_nested.proofs.Exact as CNested

pub record Claims : Type 2 where
  -- wire
  pub refusal_number : Exact refusal_number.ended (λ _ _. refusal_number.clauses)
  -- wire_read
  pub byte_at : Exact byte_at.ended (λ _ _. byte_at.clauses)
  pub u16_at : Exact u16_at.ended (λ _ _. u16_at.clauses)
  pub u32_at : Exact u32_at.ended (λ _ _. u32_at.clauses)
  pub part_of : ExactBy part_of.ended (λ _ _. part_of.clauses) (λ κs z. z.now)
  -- wire_write
  pub put_byte : Exact put_byte.ended (λ _ _. put_byte.clauses)
  pub put_u16 : Exact put_u16.ended (λ _ _. put_u16.clauses)
  pub put_u32 : Exact put_u32.ended (λ _ _. put_u32.clauses)
  pub put_bytes : Exact put_bytes.ended (λ _ _. put_bytes.clauses)
  -- hex
  pub hex_digit : Exact hex_digit.ended (λ _ _. hex_digit.clauses)
  -- lines
  pub blank_line : Exact blank_line.ended (λ _ _. blank_line.clauses)
  pub take_char : Exact take_char.ended (λ _ _. take_char.clauses)
  pub line_case : Exact line_case.ended (λ _ _. line_case.clauses)
  -- epath_sizes
  pub segment_size : Exact segment_size.ended (λ _ _. segment_size.clauses)
  pub path_size : Exact path_size.ended (λ _ _. path_size.clauses)
  -- epath_encode
  pub write_segment : Exact write_segment.ended (λ _ _. write_segment.clauses)
  pub write_path : Exact write_path.ended (λ _ _. write_path.clauses)
  -- epath_lists
  pub blank_path : Exact blank_path.ended (λ _ _. blank_path.clauses)
  pub default_port : Exact default_port.ended (λ _ _. default_port.clauses)
  pub is_port : Exact is_port.ended (λ _ _. is_port.clauses)
  -- epath_segment
  pub read_segment : Exact read_segment.ended (λ _ _. read_segment.clauses)
  -- epath_check
  pub check_path : Exact check_path.ended (λ _ _. check_path.clauses)
  -- epath_read
  pub read_path : Exact read_path.ended (λ _ _. read_path.clauses)
  -- connection
  pub default_parameters : Exact default_parameters.ended (λ _ _. default_parameters.clauses)
  pub default_options : Exact default_options.ended (λ _ _. default_options.clauses)
  pub connection_type : Exact connection_type.ended (λ _ _. connection_type.clauses)
  pub priority : Exact priority.ended (λ _ _. priority.clauses)
  pub direction : Exact direction.ended (λ _ _. direction.clauses)
  pub trigger : Exact trigger.ended (λ _ _. trigger.clauses)
  pub class : Exact class.ended (λ _ _. class.clauses)
  pub variable : Exact variable.ended (λ _ _. variable.clauses)
  pub priority_tick_time : Exact priority_tick_time.ended (λ _ _. priority_tick_time.clauses)
  -- connection_words
  pub encode_parameters : Exact encode_parameters.ended (λ _ _. encode_parameters.clauses)
  pub decode_parameters : Exact decode_parameters.ended (λ _ _. decode_parameters.clauses)
  pub parameter_width : Exact parameter_width.ended (λ _ _. parameter_width.clauses)
  -- transport_words
  pub transport_class_trigger : Exact transport_class_trigger.ended (λ _ _. transport_class_trigger.clauses)
  pub transport_of : Exact transport_of.ended (λ _ _. transport_of.clauses)
  pub transport_byte : Exact transport_byte.ended (λ _ _. transport_byte.clauses)
  -- triads
  pub put_triad : Exact put_triad.ended (λ _ _. put_triad.clauses)
  -- route
  pub route_size : Exact route_size.ended (λ _ _. route_size.clauses)
  -- default_path
  pub default_connection_path : Exact default_connection_path.ended (λ _ _. default_connection_path.clauses)
  -- open_sizes
  pub forward_open_size : Exact forward_open_size.ended (λ _ _. forward_open_size.clauses)
  pub open_base : Exact open_base.ended (λ _ _. open_base.clauses)
  pub front_size : Exact front_size.ended (λ _ _. front_size.clauses)
  -- close_sizes
  pub forward_close_size : Exact forward_close_size.ended (λ _ _. forward_close_size.clauses)
  -- open_encode
  pub write_forward_open : Exact write_forward_open.ended (λ _ _. write_forward_open.clauses)
  pub write_forward_open_over : Exact write_forward_open_over.ended (λ _ _. write_forward_open_over.clauses)
  -- close_fields
  pub put_close_fields : Exact put_close_fields.ended (λ _ _. put_close_fields.clauses)
  -- close_encode
  pub write_forward_close : Exact write_forward_close.ended (λ _ _. write_forward_close.clauses)
  -- close_over
  pub write_forward_close_over : Exact write_forward_close_over.ended (λ _ _. write_forward_close_over.clauses)
  -- request_sizes
  pub message_size : Exact message_size.ended (λ _ _. message_size.clauses)
  pub unconnected_send_size : Exact unconnected_send_size.ended (λ _ _. unconnected_send_size.clauses)
  -- message_encode
  pub write_message : Exact write_message.ended (λ _ _. write_message.clauses)
  -- message_over
  pub write_message_over : Exact write_message_over.ended (λ _ _. write_message_over.clauses)
  -- send_fields
  pub put_send_fields : Exact put_send_fields.ended (λ _ _. put_send_fields.clauses)
  -- send_encode
  pub write_unconnected_send : Exact write_unconnected_send.ended (λ _ _. write_unconnected_send.clauses)
  -- send_over
  pub write_unconnected_send_over : Exact write_unconnected_send_over.ended (λ _ _. write_unconnected_send_over.clauses)
  -- request_first
  pub first_byte : Exact first_byte.ended (λ _ _. first_byte.clauses)
  -- message_read
  pub read_message : Exact read_message.ended (λ _ _. read_message.clauses)
  pub route_at : Exact route_at.ended (λ _ _. route_at.clauses)
  pub padded_route_at : Exact padded_route_at.ended (λ _ _. padded_route_at.clauses)
  -- open_read
  pub read_forward_open : Exact read_forward_open.ended (λ _ _. read_forward_open.clauses)
  -- close_read
  pub read_forward_close : Exact read_forward_close.ended (λ _ _. read_forward_close.clauses)
  -- send_read
  pub read_unconnected_send : Exact read_unconnected_send.ended (λ _ _. read_unconnected_send.clauses)
  -- statuses
  pub is_ok : Exact is_ok.ended (λ _ _. is_ok.clauses)
  pub is_routing_error : Exact is_routing_error.ended (λ _ _. is_routing_error.clauses)
  -- reply_header
  pub read_reply_header : Exact read_reply_header.ended (λ _ _. read_reply_header.clauses)
  -- success_encode
  pub write_forward_open_success : Exact write_forward_open_success.ended (λ _ _. write_forward_open_success.clauses)
  pub write_forward_close_success : Exact write_forward_close_success.ended (λ _ _. write_forward_close_success.clauses)
  -- failure_encode
  pub write_forward_failure : Exact write_forward_failure.ended (λ _ _. write_forward_failure.clauses)
  -- reply_read
  pub read_forward_open_reply : Exact read_forward_open_reply.ended (λ _ _. read_forward_open_reply.clauses)
  pub read_forward_close_reply : Exact read_forward_close_reply.ended (λ _ _. read_forward_close_reply.clauses)
  -- envelope
  pub read_envelope : Exact read_envelope.ended (λ _ _. read_envelope.clauses)
  -- frames
  pub reset_state : Exact reset_state.ended (λ _ _. reset_state.clauses)
  pub step : Exact step.ended (λ _ _. step.clauses)
  pub take_scrap : Exact take_scrap.ended (λ _ _. take_scrap.clauses)
  pub reset : Exact reset.ended (λ _ _. reset.clauses)
  -- body_sizes
  pub body_size : Exact body_size.ended (λ _ _. body_size.clauses)
  -- body_encode
  pub write_body : Exact write_body.ended (λ _ _. write_body.clauses)
  -- body_read
  pub read_body : Exact read_body.ended (λ _ _. read_body.clauses)
  -- body_items
  pub walk_item : Exact walk_item.ended (λ _ _. walk_item.clauses)
  pub body_item : Exact body_item.ended (λ _ _. body_item.clauses)
  -- body_replies
  pub walk_reply : Exact walk_reply.ended (λ _ _. walk_reply.clauses)
  pub reply_item : Exact reply_item.ended (λ _ _. reply_item.clauses)
  -- body_join
  pub join_bodies : Exact join_bodies.ended (λ _ _. join_bodies.clauses)
  -- nested
  pub read_nested : Exact read_nested.ended (λ _ _. read_nested.clauses)
  -- dump_text
  pub write_dump : Exact write_dump.ended (λ _ _. write_dump.clauses)
  -- c_answers
  pub refusal_answer : Exact refusal_answer.ended (λ _ _. refusal_answer.clauses)
  pub size_answer : Exact size_answer.ended (λ _ _. size_answer.clauses)
  pub count_answer : Exact count_answer.ended (λ _ _. count_answer.clauses)
  pub fill : Exact fill.ended (λ _ _. fill.clauses)
  -- route_written
  pub written_route : Exact written_route.ended (λ _ _. written_route.clauses)
  pub written_record : Exact written_record.ended (λ _ _. written_record.clauses)
  -- c_paths
  pub bark_path_size : Exact bark_path_size.ended (λ _ _. bark_path_size.clauses)
  pub bark_write_path : Exact bark_write_path.ended (λ _ _. bark_write_path.clauses)
  -- c_path_checks
  pub bark_check_path : Exact bark_check_path.ended (λ _ _. bark_check_path.clauses)
  -- c_path_reads
  pub bark_read_path : Exact bark_read_path.ended (λ _ _. bark_read_path.clauses)
  -- c_messages
  pub bark_write_message : Exact bark_write_message.ended (λ _ _. bark_write_message.clauses)
  pub bark_read_message : Exact bark_read_message.ended (λ _ _. bark_read_message.clauses)
  -- c_sends
  pub bark_write_unconnected_send : Exact bark_write_unconnected_send.ended (λ _ _. bark_write_unconnected_send.clauses)
  pub bark_read_unconnected_send : Exact bark_read_unconnected_send.ended (λ _ _. bark_read_unconnected_send.clauses)
  -- c_forward_words
  pub bark_encode_parameters : Exact bark_encode_parameters.ended (λ _ _. bark_encode_parameters.clauses)
  pub bark_decode_parameters : Exact bark_decode_parameters.ended (λ _ _. bark_decode_parameters.clauses)
  -- c_transport_words
  pub bark_encode_transport : Exact bark_encode_transport.ended (λ _ _. bark_encode_transport.clauses)
  pub bark_decode_transport : Exact bark_decode_transport.ended (λ _ _. bark_decode_transport.clauses)
  -- c_opens
  pub bark_read_forward_open : Exact bark_read_forward_open.ended (λ _ _. bark_read_forward_open.clauses)
  pub bark_default_forward_open : Exact bark_default_forward_open.ended (λ _ _. bark_default_forward_open.clauses)
  -- c_open_writes
  pub bark_write_forward_open : Exact bark_write_forward_open.ended (λ _ _. bark_write_forward_open.clauses)
  -- c_closes
  pub bark_read_forward_close : Exact bark_read_forward_close.ended (λ _ _. bark_read_forward_close.clauses)
  pub bark_write_forward_close : Exact bark_write_forward_close.ended (λ _ _. bark_write_forward_close.clauses)
  -- c_reply_numbers
  pub reply_numbers : Exact reply_numbers.ended (λ _ _. reply_numbers.clauses)
  -- c_replies
  pub bark_read_reply : Exact bark_read_reply.ended (λ _ _. bark_read_reply.clauses)
  -- c_statuses
  pub status_of : Exact status_of.ended (λ _ _. status_of.clauses)
  pub bark_is_routing_error : Exact bark_is_routing_error.ended (λ _ _. bark_is_routing_error.clauses)
  -- c_envelope
  pub bark_read_envelope : Exact bark_read_envelope.ended (λ _ _. bark_read_envelope.clauses)
  -- c_frames
  pub bark_take_scrap : Exact bark_take_scrap.ended (λ _ _. bark_take_scrap.clauses)
  -- c_failure_numbers
  pub failure_numbers : Exact failure_numbers.ended (λ _ _. failure_numbers.clauses)
  -- c_open_replies
  pub bark_read_forward_open_reply : Exact bark_read_forward_open_reply.ended (λ _ _. bark_read_forward_open_reply.clauses)
  -- c_close_replies
  pub bark_read_forward_close_reply : Exact bark_read_forward_close_reply.ended (λ _ _. bark_read_forward_close_reply.clauses)
  -- c_reply_writes
  pub bark_write_forward_open_success : Exact bark_write_forward_open_success.ended (λ _ _. bark_write_forward_open_success.clauses)
  pub bark_write_forward_close_success : Exact bark_write_forward_close_success.ended (λ _ _. bark_write_forward_close_success.clauses)
  -- c_failure_writes
  pub bark_write_forward_failure : Exact bark_write_forward_failure.ended (λ _ _. bark_write_forward_failure.clauses)
  -- c_bodies
  pub bark_write_body : Exact bark_write_body.ended (λ _ _. bark_write_body.clauses)
  pub bark_join_bodies : Exact bark_join_bodies.ended (λ _ _. bark_join_bodies.clauses)
  -- c_body_reads
  pub bark_read_body : Exact bark_read_body.ended (λ _ _. bark_read_body.clauses)
  pub bark_body_item : Exact bark_body_item.ended (λ _ _. bark_body_item.clauses)
  pub bark_walk_item : Exact bark_walk_item.ended (λ _ _. bark_walk_item.clauses)
  -- c_body_replies
  pub bark_reply_item : Exact bark_reply_item.ended (λ _ _. bark_reply_item.clauses)
  pub bark_walk_reply : Exact bark_walk_reply.ended (λ _ _. bark_walk_reply.clauses)
  -- c_reply_walk
  pub bark_read_replies : Exact bark_read_replies.ended (λ _ _. bark_read_replies.clauses)
  -- c_nested
  pub bark_read_nested : Exact bark_read_nested.ended (λ _ _. bark_read_nested.clauses)

pub claims : Claims
claims =
    record {
      refusal_number = Wire.refusal_number_exact;
      byte_at = WireRead.byte_at_exact;
      u16_at = WireRead.u16_at_exact;
      u32_at = WireRead.u32_at_exact;
      part_of = WireRead.part_of_exact;
      put_byte = WireWrite.put_byte_exact;
      put_u16 = WireWrite.put_u16_exact;
      put_u32 = WireWrite.put_u32_exact;
      put_bytes = WireWrite.put_bytes_exact;
      hex_digit = Hex.hex_digit_exact;
      blank_line = Lines.blank_line_exact;
      take_char = LineChars.take_char_exact;
      line_case = Lines.line_case_exact;
      blank_path = EpathLists.blank_path_exact;
      default_port = EpathLists.default_port_exact;
      is_port = EpathLists.is_port_exact;
      segment_size = EpathSizes.segment_size_exact;
      path_size = PathSizes.path_size_exact;
      write_segment = EpathEncode.write_segment_exact;
      write_path = EpathEncode.write_path_exact;
      read_segment = EpathSegment.read_segment_exact;
      check_path = EpathCheck.check_path_exact;
      read_path = EpathRead.read_path_exact;
      default_parameters = Connection.default_parameters_exact;
      default_options = Connection.default_options_exact;
      connection_type = Connection.connection_type_exact;
      priority = Connection.priority_exact;
      direction = Connection.direction_exact;
      trigger = Connection.trigger_exact;
      class = Connection.class_exact;
      variable = Connection.variable_exact;
      priority_tick_time = Connection.priority_tick_time_exact;
      encode_parameters = ConnectionWords.encode_parameters_exact;
      decode_parameters = ConnectionWords.decode_parameters_exact;
      parameter_width = ConnectionWords.parameter_width_exact;
      transport_class_trigger = TransportWords.transport_class_trigger_exact;
      transport_of = TransportWords.transport_of_exact;
      transport_byte = TransportWords.transport_byte_exact;
      put_triad = Triads.put_triad_exact;
      route_size = Route.route_size_exact;
      default_connection_path = DefaultPath.default_connection_path_exact;
      forward_open_size = OpenSizes.forward_open_size_exact;
      open_base = OpenSizes.open_base_exact;
      front_size = OpenSizes.front_size_exact;
      forward_close_size = CloseSizes.forward_close_size_exact;
      write_forward_open = OpenEncode.write_forward_open_exact;
      write_forward_open_over = OpenEncode.write_forward_open_over_exact;
      put_close_fields = CloseFields.put_close_fields_exact;
      write_forward_close = CloseEncode.write_forward_close_exact;
      write_forward_close_over = CloseOver.write_forward_close_over_exact;
      message_size = RequestSizes.message_size_exact;
      unconnected_send_size = RequestSizes.unconnected_send_size_exact;
      write_message = MessageEncode.write_message_exact;
      write_message_over = MessageOver.write_message_over_exact;
      put_send_fields = SendFields.put_send_fields_exact;
      write_unconnected_send = SendEncode.write_unconnected_send_exact;
      write_unconnected_send_over = SendOver.write_unconnected_send_over_exact;
      first_byte = RequestFirst.first_byte_exact;
      read_message = MessageRead.read_message_exact;
      route_at = MessageRead.route_at_exact;
      padded_route_at = MessageRead.padded_route_at_exact;
      read_forward_open = OpenRead.read_forward_open_exact;
      read_forward_close = CloseRead.read_forward_close_exact;
      read_unconnected_send = SendRead.read_unconnected_send_exact;
      is_ok = Statuses.is_ok_exact;
      is_routing_error = Statuses.is_routing_error_exact;
      read_reply_header = ReplyHeader.read_reply_header_exact;
      write_forward_open_success = SuccessEncode.write_forward_open_success_exact;
      write_forward_close_success = SuccessEncode.write_forward_close_success_exact;
      write_forward_failure = FailureEncode.write_forward_failure_exact;
      read_forward_open_reply = ReplyRead.read_forward_open_reply_exact;
      read_forward_close_reply = ReplyRead.read_forward_close_reply_exact;
      read_envelope = Envelope.read_envelope_exact;
      reset_state = Frames.reset_state_exact;
      step = Frames.step_exact;
      take_scrap = Frames.take_scrap_exact;
      reset = Frames.reset_exact;
      body_size = BodySizes.body_size_exact;
      write_body = BodyEncode.write_body_exact;
      read_body = BodyRead.read_body_exact;
      walk_item = BodyItems.walk_item_exact;
      body_item = BodyItems.body_item_exact;
      walk_reply = BodyReplies.walk_reply_exact;
      reply_item = BodyReplies.reply_item_exact;
      join_bodies = BodyJoin.join_bodies_exact;
      read_nested = Nested.read_nested_exact;
      write_dump = DumpText.write_dump_exact;
      refusal_answer = CAnswers.refusal_answer_exact;
      size_answer = CAnswers.size_answer_exact;
      count_answer = CAnswers.count_answer_exact;
      fill = CAnswers.fill_exact;
      written_route = RouteWritten.written_route_exact;
      written_record = RouteWritten.written_record_exact;
      bark_path_size = CPaths.bark_path_size_exact;
      bark_write_path = CPaths.bark_write_path_exact;
      bark_check_path = CPathChecks.bark_check_path_exact;
      bark_read_path = CPathReads.bark_read_path_exact;
      bark_write_message = CMessages.bark_write_message_exact;
      bark_read_message = CMessages.bark_read_message_exact;
      bark_write_unconnected_send = CSends.bark_write_unconnected_send_exact;
      bark_read_unconnected_send = CSends.bark_read_unconnected_send_exact;
      bark_encode_parameters = CForwardWords.bark_encode_parameters_exact;
      bark_decode_parameters = CForwardWords.bark_decode_parameters_exact;
      bark_encode_transport = CTransportWords.bark_encode_transport_exact;
      bark_decode_transport = CTransportWords.bark_decode_transport_exact;
      bark_read_forward_open = COpens.bark_read_forward_open_exact;
      bark_default_forward_open = COpens.bark_default_forward_open_exact;
      bark_write_forward_open = COpenWrites.bark_write_forward_open_exact;
      bark_read_forward_close = CCloses.bark_read_forward_close_exact;
      bark_write_forward_close = CCloses.bark_write_forward_close_exact;
      reply_numbers = CReplyNumbers.reply_numbers_exact;
      bark_read_reply = CReplies.bark_read_reply_exact;
      status_of = CStatuses.status_of_exact;
      bark_is_routing_error = CStatuses.bark_is_routing_error_exact;
      bark_read_envelope = CEnvelope.bark_read_envelope_exact;
      bark_take_scrap = CFrames.bark_take_scrap_exact;
      failure_numbers = CFailureNumbers.failure_numbers_exact;
      bark_read_forward_open_reply = COpenReplies.bark_read_forward_open_reply_exact;
      bark_read_forward_close_reply = CCloseReplies.bark_read_forward_close_reply_exact;
      bark_write_forward_open_success = CReplyWrites.bark_write_forward_open_success_exact;
      bark_write_forward_close_success = CReplyWrites.bark_write_forward_close_success_exact;
      bark_write_forward_failure = CFailureWrites.bark_write_forward_failure_exact;
      bark_write_body = CBodies.bark_write_body_exact;
      bark_read_body = CBodyReads.bark_read_body_exact;
      bark_body_item = CBodyReads.bark_body_item_exact;
      bark_walk_item = CBodyReads.bark_walk_item_exact;
      bark_join_bodies = CBodies.bark_join_bodies_exact;
      bark_reply_item = CBodyReplies.bark_reply_item_exact;
      bark_walk_reply = CBodyReplies.bark_walk_reply_exact;
      bark_read_replies = CReplyWalk.bark_read_replies_exact;
      bark_read_nested = CNested.bark_read_nested_exact;
    }
